pub mod CacheState
pub mod Settled
pub mod Wants
pub mod Moves
