pub mod Text
pub mod Sheet
pub mod Feeding
pub mod Steps
