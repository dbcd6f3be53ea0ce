pub use Rattle.sb_room.specs.Owned
pub mod Rooms
pub mod Weights
pub mod Coming
pub mod Beside
pub mod Charges
pub mod Measures
