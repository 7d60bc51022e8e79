pub mod Pasting
pub mod Laws
pub mod Words
pub mod Rows
pub mod InPlace
pub mod Taken
pub mod Widened
mod Answered
