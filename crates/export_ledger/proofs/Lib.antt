mod Bounds
pub mod Demand3
