pub use Rattle.sb_treemethod.proofs.Few
pub use Rattle.sb_treemethod.proofs.Frames
pub use Rattle.sb_treemethod.proofs.Reading
pub mod CallsLemmas
pub mod LackingLemmas
pub mod ScansLemmas
pub mod PathLemmas
pub mod PlacingsLemmas
