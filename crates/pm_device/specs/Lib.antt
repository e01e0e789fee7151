pub mod Kinds
pub mod Ticks
pub mod Keys
