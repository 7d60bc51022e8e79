pub mod Held
mod Verdicts
mod Index
pub mod Simulation
pub mod Start
mod Witness
pub mod OverC
