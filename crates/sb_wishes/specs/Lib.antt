pub mod Wished
pub mod Edits
pub mod Outcomes
