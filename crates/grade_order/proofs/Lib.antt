mod Signed
mod Comparing
mod Rising
mod Differences
mod Sixteenths
mod Surprises
mod Ready
mod Early
mod Distance
pub mod Steps
