pub mod ArgumentLemmas
pub mod CommandLemmas
pub mod ReadLemmas
pub mod AnswerLemmas
pub mod WorkedWords
