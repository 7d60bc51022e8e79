pub mod Const
pub mod Grading
