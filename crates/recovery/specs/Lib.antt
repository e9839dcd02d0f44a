pub mod Faults
pub mod Standing
pub mod Empty
pub mod Steps
pub mod Found
pub mod Migration
pub mod Booting
