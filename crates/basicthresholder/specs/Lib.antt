pub mod Const
pub mod Grades
pub mod Updates
