pub mod AnswerLemmas
pub mod OpenLemmas
pub mod PassedLemmas
pub mod PosedLemmas
