mod Sound
mod Seats
mod Keeping
mod Order
