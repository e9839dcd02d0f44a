pub mod FenceSoFar
pub mod Breaches
pub mod Laws
