pub mod Const
pub mod Judging
pub mod Judged
pub mod Decided
pub mod Steps
