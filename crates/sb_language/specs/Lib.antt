pub mod Lang
pub mod Reading
pub mod Words
