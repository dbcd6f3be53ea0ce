pub mod Counts
pub mod Owning
mod WorkedSpace
