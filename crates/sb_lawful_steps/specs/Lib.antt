pub use Rattle.sb_rule.specs.Spelling
pub mod Laws
