pub mod Found
pub mod Checker
pub mod Heights
pub mod Pairs
