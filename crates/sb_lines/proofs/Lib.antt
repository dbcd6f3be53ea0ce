pub mod CutLemmas
pub mod ItemsLemmas
pub mod HeldLemmas
pub mod InputLemmas
pub mod LineEnds
mod WorkedLines
