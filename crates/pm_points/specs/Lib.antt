pub mod Checks
pub mod Points
