pub mod Catalogue
pub mod Named
pub mod Seen
pub mod Uses
pub mod Ties
pub mod Lengths
pub mod Refusing
