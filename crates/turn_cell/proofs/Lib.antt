pub mod Queue
pub mod Histories
pub mod Moves
pub mod Turns
pub mod Seats
pub mod Accounts
pub mod Sends
