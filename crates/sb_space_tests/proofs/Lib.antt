pub mod Scribing
pub mod Made
