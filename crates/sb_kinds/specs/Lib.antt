pub mod Unnamed
pub mod Others
