pub use Rattle.sb_sound_rows.specs.Work
pub mod Laws
