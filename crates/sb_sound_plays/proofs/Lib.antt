pub use Rattle.sb_lawful_plays.proofs.Databases as LawfulPlaysDatabases
pub use Rattle.sb_lawful_plays.proofs.NewLemmas
pub use Rattle.sb_lawful_plays.proofs.Playing as LawfulPlaysPlaying
pub mod Databases
pub mod Playing
