pub mod Tuples
pub mod Kinds
pub mod Laws
