pub mod Output
pub mod Feeding
