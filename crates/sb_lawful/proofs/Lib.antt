pub mod Items
pub mod Places
pub mod Sparing
pub mod Adding
pub mod Standing
pub mod Attachable
pub mod Placing
pub mod Creating
pub mod Thinning
pub mod Mirrors
pub mod Detaching
pub mod Dropping
pub mod Steps
pub mod Commands
pub mod Attaching
pub mod AttachSteps
pub mod Naming
mod WorkedPremises
