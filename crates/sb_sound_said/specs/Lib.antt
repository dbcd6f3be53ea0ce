pub use Rattle.sb_said.specs.Written
pub mod Laws
