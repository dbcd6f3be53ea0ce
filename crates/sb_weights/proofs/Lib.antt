pub use Rattle.sb_room.proofs.Owning
pub mod Bounded
pub mod Weighing
pub mod Summing
pub mod Catalogue
pub mod Lightness
pub mod Resting
pub mod Filling
pub mod Changing
pub mod Asking
pub mod Lacking
pub mod Meant
pub mod Coming
pub mod Beside
pub mod Charged
mod WorkedStore
pub mod Measuring
