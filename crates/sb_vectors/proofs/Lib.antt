pub mod BoxLemmas
pub mod MoveLemmas
pub mod CodesLemmas
pub mod LawLemmas
