pub mod Numbers
pub mod InOneGo
pub mod Sizes
