mod Product
pub mod Exactness
