pub mod Vectors
pub mod States
