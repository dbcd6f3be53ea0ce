pub mod Walking
pub mod Turning
pub mod Stopping
pub mod Finding
pub mod Mapping
pub mod Changing
pub mod Storing
pub mod Emptying
