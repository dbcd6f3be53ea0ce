pub mod Columns
pub mod Stood
pub mod Meaning
pub mod Entries
pub mod Calls
pub mod Triggers
pub mod Examples
