mod TimesOne
pub mod Grades
pub mod Opens
mod Keeps
mod Calmness
pub mod Demand3
