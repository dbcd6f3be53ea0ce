pub mod Bytes
pub mod Field
