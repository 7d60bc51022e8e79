pub mod Const
pub mod Statistics
