mod Samples
mod WorkedCosts
mod WorkedFinish
mod WorkedNeeds
pub mod OrderlyLemmas
pub mod LeadsLemmas
