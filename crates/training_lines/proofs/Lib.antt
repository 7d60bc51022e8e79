mod InLine
pub mod Whole
pub mod Taken
pub mod Load
