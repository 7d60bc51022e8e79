pub mod Calm
pub mod Statement
