pub mod Storable
pub mod Work
pub mod States
pub mod Laws
