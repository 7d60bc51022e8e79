pub mod Scans
pub mod Laws
pub mod Paths
pub mod Rows
mod Settled
pub mod Cases
