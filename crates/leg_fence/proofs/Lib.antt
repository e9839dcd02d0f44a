pub mod Products
pub mod Sound
pub mod Complete
pub mod First
