pub mod Stores
pub mod Entries
pub mod Reads
