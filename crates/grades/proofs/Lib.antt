mod Counts
mod Higher
mod Witness
pub mod Whole
