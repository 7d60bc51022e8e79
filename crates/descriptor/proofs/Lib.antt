pub mod Finite
pub mod Bounds
