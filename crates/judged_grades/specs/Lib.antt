pub mod Drawers
pub mod Statement
