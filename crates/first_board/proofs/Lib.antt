mod Clients
mod Effects
mod Sound
mod Order
