pub mod Queue
pub mod Legal
pub mod TableRuled
pub mod Turn
pub mod Seats
