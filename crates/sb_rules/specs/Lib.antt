pub mod Pageless
pub mod Checks
pub mod Triggers
pub mod Examples
