pub mod ItemThere
pub mod Wholes
pub mod Compared
pub mod Failures
