pub use Rattle.sb_engine.specs.Working
pub mod Serving
pub mod Endings
pub mod Seen
pub mod FewLaws
pub mod SeenLaws
