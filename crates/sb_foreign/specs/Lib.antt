pub mod Watched
pub mod Strips
pub mod Limits
pub mod Onces
pub mod Legends
pub mod Counts
pub mod Examples
