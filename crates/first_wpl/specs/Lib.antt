pub mod Fields
pub mod Rows
pub mod Faults
pub mod Wpl
pub mod Home
pub mod Told
pub mod Writing
pub mod Printed
