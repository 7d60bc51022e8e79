pub mod Calls
pub mod Calm
pub mod Statement
