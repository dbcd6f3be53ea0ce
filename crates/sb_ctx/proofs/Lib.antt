pub mod HeldLaws
pub mod SoundLaws
pub mod ViewLaws
pub mod ListedLaws
pub mod DrivingLaws
mod HeldLemmas
mod SizedLemmas
pub mod PageLaws
pub mod BoundLaws
pub mod AuthorLaws
