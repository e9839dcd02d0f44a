pub mod Holds
pub mod CanAsk
pub mod Asking
pub mod Answers
pub mod Served
pub mod InForce
