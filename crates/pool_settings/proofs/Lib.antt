pub mod Sameness
pub mod Stored
pub mod Steps
