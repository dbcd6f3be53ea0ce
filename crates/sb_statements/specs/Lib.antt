pub use Rattle.sb_building.specs.Standing
pub use Rattle.sb_building.specs.Working
pub mod Statements
pub mod Posed
