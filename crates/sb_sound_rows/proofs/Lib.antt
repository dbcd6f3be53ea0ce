pub mod Keys
pub mod Rows
pub mod Wished
pub mod Matching
pub mod Marks
pub mod Changed
pub mod Folding
pub mod Finishing
