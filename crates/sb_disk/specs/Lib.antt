pub mod Causes
pub mod Crashes
pub mod Disk
pub mod Laws
pub mod Moments
pub mod Quiet
pub mod Streams
pub mod Syncs
