mod Samples
mod WorkedReferences
mod WorkedChanges
mod WorkedKinds
mod WorkedLimits
pub mod WorkedRules
pub mod RuleLaws
mod ValuesIn
