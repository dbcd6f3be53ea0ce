pub mod Checking
pub mod Spelled
pub mod Holding
pub mod Walking
pub mod Roots
pub mod Pairing
