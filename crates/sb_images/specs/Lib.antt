pub mod Layout
pub mod Images
pub mod Store
pub mod Writing
pub mod Laws
