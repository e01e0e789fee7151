pub mod Limits
pub mod Cuts
pub mod Outcomes
pub mod Rows
