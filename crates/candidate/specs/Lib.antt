pub mod Const
pub mod Candidate
