pub use Rattle.sb_btree.specs.Ways
pub mod Maps
pub mod Refusals
pub mod Calls
pub mod Turns
pub mod Changes
pub mod Making
