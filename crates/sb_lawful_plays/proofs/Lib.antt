pub use Rattle.sb_kernel.proofs.MoveBoxes
pub use Rattle.sb_kernel.proofs.NewLemmas
pub mod Databases
pub mod Playing
