pub mod Reports
pub mod LineWords
pub mod Names
pub mod Prices
pub mod Moves
pub mod Traces
