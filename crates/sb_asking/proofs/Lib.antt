pub use Rattle.sb_opened.proofs.Faults
pub mod FindsLemmas
pub mod CallsLemmas
mod VerdictsLemmas
pub mod ValuesLemmas
