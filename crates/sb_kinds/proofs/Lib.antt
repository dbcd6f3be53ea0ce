pub mod FirstPlaces
pub mod Kinded
pub mod Tested
pub mod Bare
