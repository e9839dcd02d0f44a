mod Steps
mod Lists
mod Items
mod Faultless
mod Gathered
mod Exactly
mod Up
mod Compat
mod Within
mod Moved
mod Moving
mod Telling
mod Booted
mod Emptied
pub mod Marked
pub mod Repeats
pub mod NewSlots
pub mod Behind
pub mod Copying
pub mod PutSlots
