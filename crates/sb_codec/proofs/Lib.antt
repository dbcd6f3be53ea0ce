pub mod Numbers
pub mod Texts
pub mod Codes
pub mod Spellings
pub mod Rows
pub mod TupleLaws
pub mod KeyLaws
