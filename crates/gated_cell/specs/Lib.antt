pub mod Cell
pub mod Slots
pub mod Refusals
pub mod Beside
pub mod Opens
