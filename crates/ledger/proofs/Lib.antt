mod Relative
mod Rounding
mod Values
mod Absolute
mod Budget
mod CommonUnit
mod Order
mod Factor
mod Update
mod Root
mod Variance
mod Threshold
mod Opening
mod Grade
mod Weaker
mod OneScore
pub mod Laws
pub mod WholeList
mod Schwarz
mod Sides
mod Model
mod Impostors
pub mod Faithful
