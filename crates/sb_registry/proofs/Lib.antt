pub use Rattle.sb_drive.proofs.MethodLemmas
pub use Rattle.sb_drive.proofs.SpacesLemmas
pub mod BoxesLemmas
pub mod CodesLemmas
pub mod RunsLemmas
