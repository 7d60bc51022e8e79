pub mod Const
pub mod DiVector
