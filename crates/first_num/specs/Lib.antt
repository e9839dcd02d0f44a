pub mod Token
pub mod Scaled
pub mod Faults
pub mod Parts
pub mod Digits
pub mod Decimal
pub mod Appended
