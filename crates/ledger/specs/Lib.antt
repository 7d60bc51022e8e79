pub mod Fractions
pub mod Ledger
pub mod Statement
pub mod Theorem
pub mod Faithful
