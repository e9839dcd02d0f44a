pub mod FirstBy
pub mod Writing
pub mod Reading
