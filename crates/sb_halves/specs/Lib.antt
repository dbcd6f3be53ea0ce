pub mod Halves
pub mod Both
