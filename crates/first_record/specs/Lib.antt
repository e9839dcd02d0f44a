pub mod Plans
pub mod Requests
pub mod Messages
pub mod Vehicle
pub mod Watch
pub mod Record
