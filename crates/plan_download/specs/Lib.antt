pub mod Downloads
pub mod Laws
