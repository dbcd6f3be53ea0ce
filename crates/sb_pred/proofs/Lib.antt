pub mod Fronts
pub mod Found
pub mod Typed
pub mod Storable
