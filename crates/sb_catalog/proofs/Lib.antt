pub mod Numbers
pub mod Counts
pub mod Storable
pub mod Parts
pub mod Described
