pub mod TransferState
pub mod TransferLaw
