pub mod Route
pub mod ReturnState
pub mod Nearer
pub mod There
pub mod Landings
pub mod Laws
