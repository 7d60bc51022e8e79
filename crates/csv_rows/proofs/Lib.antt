mod Walking
mod Fields
mod InOneGo
pub mod Whole
pub mod Sizes
