pub use Rattle.sb_lawful_plays.specs.Crashes
pub use Rattle.sb_lawful_plays.specs.Creating
pub use Rattle.sb_lawful_plays.specs.DeclaredEnding
pub use Rattle.sb_lawful_plays.specs.Ending
pub use Rattle.sb_lawful_plays.specs.Laws as LawfulPlaysLaws
pub use Rattle.sb_lawful_plays.specs.Named
pub use Rattle.sb_lawful_plays.specs.Keeping
pub use Rattle.sb_lawful_plays.specs.Naming
pub use Rattle.sb_lawful_plays.specs.Opening
pub use Rattle.sb_lawful_plays.specs.Plays
pub use Rattle.sb_lawful_plays.specs.Posing
pub use Rattle.sb_lawful_plays.specs.Runs
pub use Rattle.sb_lawful_plays.specs.Serving
pub use Rattle.sb_lawful_plays.specs.Session
pub use Rattle.sb_lawful_plays.specs.Sessions
pub use Rattle.sb_lawful_plays.specs.Table
pub use Rattle.sb_lawful_plays.specs.World
pub mod Laws
