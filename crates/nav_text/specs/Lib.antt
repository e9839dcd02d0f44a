pub mod Spans
pub mod Lines
pub mod Words
pub mod Cursors
pub mod FirstWords
pub mod Faults
pub mod Joined
