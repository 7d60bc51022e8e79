mod Answered
mod Fitting
mod Kept
mod Witness
mod Grades
pub mod Whole
