pub mod Lists
pub mod Chains
pub mod Pool
pub mod Steps
