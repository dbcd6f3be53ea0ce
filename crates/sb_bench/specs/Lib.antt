pub mod Load
pub mod Watched
pub mod Rows
pub mod Inserts
