pub mod Phrases
pub mod Gives
