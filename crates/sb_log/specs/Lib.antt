pub mod Records
pub mod Rec
pub mod Standing
pub mod Restored
pub mod Undoing
pub mod Views
pub mod Whole
pub mod Laws
