pub mod Rows
pub mod Scanning
pub mod Sizes
pub mod Steps
