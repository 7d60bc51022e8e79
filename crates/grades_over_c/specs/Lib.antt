pub mod Bytes
pub mod Statement
