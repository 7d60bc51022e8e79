pub mod Const
pub mod Attributors
pub mod Sorted
