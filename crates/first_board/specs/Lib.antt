pub mod BoardState
pub mod BoardCalls
pub mod Kept
pub mod BoardLaw
