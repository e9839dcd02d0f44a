pub mod FirstBy
pub mod Writing
pub mod ToldItems
pub mod Rows
pub mod Returning
pub mod Reading
