pub mod Reached
pub mod Statement
pub mod Needed
