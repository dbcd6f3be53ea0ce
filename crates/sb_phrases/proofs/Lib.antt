pub mod Joined
pub mod PiecesRead
pub mod PhrasesRead
pub mod PredicatesRead
pub mod RelationsRead
pub mod Loops
