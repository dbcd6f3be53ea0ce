pub mod Lists
pub mod Fronts
pub mod Actions
pub mod Preds
pub mod Laws
pub mod BoundTerms
pub mod StorableRules
