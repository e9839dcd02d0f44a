pub mod Items
pub mod Nearest
