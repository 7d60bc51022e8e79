pub mod Lists
pub mod State
