pub mod Laws
pub mod Kept
pub mod Rows
mod Cases
