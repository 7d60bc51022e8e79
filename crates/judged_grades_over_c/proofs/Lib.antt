mod Holding
mod Verdicts
pub mod Whole
