pub mod Commands
pub mod Rules
pub mod Verbs
pub mod Outcome
pub mod Line
