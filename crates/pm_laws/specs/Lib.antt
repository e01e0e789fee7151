pub mod Added
pub mod Due
pub mod Potential
pub mod Gone
pub mod Rest
