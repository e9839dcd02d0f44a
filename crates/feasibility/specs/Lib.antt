pub mod SoFar
pub mod Verdicts
pub mod Parts
pub mod Judged
pub mod AtPlace
pub mod Accepting
pub mod Whole
