mod Covers
mod Images
mod Calls
mod Shelves
mod Records
