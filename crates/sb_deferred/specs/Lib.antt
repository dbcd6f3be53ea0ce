pub mod Entries
pub mod Waiting
pub mod Laws
pub mod Complete
pub mod CompleteLaws
