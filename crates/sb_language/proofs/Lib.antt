pub mod Front
pub mod Choice
pub mod Parts
pub mod Lists
pub mod Stops
