pub mod Failing
pub mod Past
pub mod State
pub mod Streams
pub mod View
