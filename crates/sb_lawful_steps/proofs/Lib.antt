pub mod Keeping
pub mod Names
pub mod States
pub mod Stepping
pub mod Alike
mod WorkedPlays
