pub mod Descriptors
pub mod Writing
pub mod Reading
pub mod Laws
