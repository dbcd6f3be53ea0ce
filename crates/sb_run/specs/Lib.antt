pub mod Refusing
pub mod Starting
pub mod Run
