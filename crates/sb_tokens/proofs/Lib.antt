pub mod TokensLemmas
pub mod QuotedLemmas
pub mod RowsLemmas
