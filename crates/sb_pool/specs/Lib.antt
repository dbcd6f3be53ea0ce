pub mod State
pub mod Pages
pub mod Frames
pub mod View
pub mod Calls
