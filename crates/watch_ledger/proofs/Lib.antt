mod Counting
mod Bounds
pub mod Sizes
pub mod Demand3
