mod OneWay
mod Witness
pub mod InPool
