pub mod Walk
pub mod Edges
pub mod Order
pub mod Marks
pub mod Puts
pub mod Ranges
pub mod Spans
pub mod Outside
