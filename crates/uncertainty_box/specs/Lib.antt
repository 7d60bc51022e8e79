pub mod Const
pub mod Scan
pub mod Box
pub mod Pass
pub mod Settled
