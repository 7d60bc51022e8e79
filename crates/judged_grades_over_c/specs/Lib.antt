pub mod Stored
pub mod Statement
