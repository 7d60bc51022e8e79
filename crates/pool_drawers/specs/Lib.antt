pub mod Drawers
pub mod Steps
