pub mod Sameness
pub mod Settings
pub mod Steps
