pub mod FitsLemmas
pub mod Searches
pub mod SpellingLemmas
pub mod Truths
