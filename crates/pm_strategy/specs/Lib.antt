pub mod Levels
pub mod Steps
pub mod Strategies
