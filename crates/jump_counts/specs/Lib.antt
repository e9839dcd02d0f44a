pub mod TakesJump
