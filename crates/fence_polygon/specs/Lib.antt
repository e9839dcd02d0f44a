pub mod Bands
pub mod Marks
pub mod Polygons
pub mod Turn
