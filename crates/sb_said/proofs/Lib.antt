pub mod Fronts
pub mod Spelled
pub mod Halting
pub mod Limits
pub mod Stepping
mod WorkedLines
