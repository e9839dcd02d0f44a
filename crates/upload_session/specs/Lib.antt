pub mod UploadState
pub mod SessionLaw
pub mod SessionState
pub mod Kept
pub mod Refusals
pub mod Sessions
