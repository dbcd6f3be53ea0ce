pub use Rattle.sb_cascade.proofs.Staying
pub mod Wishing
pub mod Storing
pub mod Following
pub mod Changing
pub mod Stepping
pub mod Building
mod WorkedPremises
