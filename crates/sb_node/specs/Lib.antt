pub mod Entries
pub mod Page
pub mod Writes
pub mod Walk
