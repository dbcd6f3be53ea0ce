pub use Rattle.sb_sound_rows.proofs.Finishing
pub mod Holding
pub mod Building
pub mod Commands
pub mod Turns
pub mod Stepping
pub mod Alike
mod WorkedCascade
