mod Scores
mod Bounds
mod Lines
mod Printed
mod Inputs
pub mod Theorems
