pub mod StartLemmas
pub mod EarlyLemmas
pub mod RunLemmas
