pub mod Numbers
pub mod Links
