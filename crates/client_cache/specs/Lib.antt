pub mod CacheState
pub mod Settled
pub mod Wants
pub mod Moves
pub mod Looking
pub mod History
pub mod Moving
pub mod Knowing
