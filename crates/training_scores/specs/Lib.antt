pub mod Recurrence
pub mod Exact
