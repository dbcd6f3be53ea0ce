pub mod Tokens
pub mod Quoted
pub mod Rows
