pub mod Contents
pub mod Pushing
pub mod Quoting
pub mod Sizes
