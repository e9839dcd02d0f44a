mod Counting
mod Closing
mod Writing
mod Opening
mod Found
