pub mod Const
pub mod Corrector
pub mod Steps
