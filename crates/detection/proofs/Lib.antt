pub mod ByState
mod Entry
mod ExpectedRow
mod Index
mod Lent
mod Modes
mod Settle
mod Stages
pub mod Work
