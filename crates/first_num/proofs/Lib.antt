pub mod Machine
pub mod Places
pub mod Leading
pub mod Rounding
pub mod Nearest
pub mod Answer
pub mod Trimming
pub mod Printed
