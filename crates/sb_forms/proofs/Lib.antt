pub mod Spelled
pub mod RowBytes
pub mod Maps
