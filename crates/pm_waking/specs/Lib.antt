pub mod Work
pub mod Sleeping
