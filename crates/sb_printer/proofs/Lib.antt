pub mod Hex
pub mod Joined
pub mod Fronts
pub mod Proper
pub mod Printed
pub mod Trees
pub mod Lines
