mod Reaching
mod Openings
pub mod Whole
