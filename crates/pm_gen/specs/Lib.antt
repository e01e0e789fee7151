pub mod Draws
pub mod Nodes
pub mod Rounds
pub mod Demo
