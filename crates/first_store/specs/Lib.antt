pub mod StoreState
pub mod Serve
pub mod Fates
pub mod CanServe
pub mod WholePlans
pub mod FailedCalls
pub mod DraftLaws
pub mod MapStore
