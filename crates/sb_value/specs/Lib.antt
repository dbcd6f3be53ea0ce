pub mod Order
pub mod Code
pub mod Spelling
pub mod Fits
pub mod Equal
