pub mod PieceLemmas
pub mod PredicateLemmas
pub mod ActionLemmas
pub mod RuleLemmas
pub mod RelationLemmas
pub mod TestLemmas
pub mod PosedLemmas
