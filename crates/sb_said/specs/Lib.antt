pub use Rattle.sb_lawful_steps.specs.Laws as LawfulStepsLaws
pub mod Written
pub mod Laws
