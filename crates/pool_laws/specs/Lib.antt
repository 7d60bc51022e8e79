pub mod Calls
pub mod Rules
pub mod Isolation
pub mod Unwritten
