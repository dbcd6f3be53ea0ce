pub mod BytesLaws
pub mod FieldLaws
pub mod Digits
pub mod Part
pub mod Fronts
