pub mod Places
pub mod SpanText
pub mod FaultSteps
pub mod LineSteps
pub mod WordSteps
pub mod JoinSteps
pub mod Loops
