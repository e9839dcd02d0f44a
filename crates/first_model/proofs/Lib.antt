pub mod Cutting
pub mod Checks
pub mod WholePlan
pub mod Moved
pub mod Places
