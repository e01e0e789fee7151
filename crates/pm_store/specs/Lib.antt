pub mod Stores
pub mod Values
pub mod Past
pub mod Memory
pub mod Rows
