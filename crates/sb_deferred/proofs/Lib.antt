mod WorkedComplete
pub mod FrontLemmas
pub mod RowLemmas
pub mod RelationLemmas
pub mod WaitingLemmas
pub mod TellingLemmas
pub mod ChangeLemmas
pub mod CommitLemmas
pub mod FailingLemmas
pub mod CatalogLemmas
