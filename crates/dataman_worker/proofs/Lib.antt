mod Records
mod Holding
mod Counting
mod Quiet
mod Writing
mod Changing
mod Settling
