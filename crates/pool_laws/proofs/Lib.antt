pub mod Kept
pub mod Opening
pub mod Removing
pub mod Settling
pub mod LayingOut
pub mod Frames
pub mod Alone
mod Unwritten
pub mod Answers
pub mod Theorems
