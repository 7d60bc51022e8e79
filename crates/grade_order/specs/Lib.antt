pub mod Sixteenths
pub mod Statement
