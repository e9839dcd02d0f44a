pub mod Crossing
pub mod Meets
pub mod Sight
