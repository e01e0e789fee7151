pub mod Texts
pub mod OneNode
pub mod Moved
pub mod Processes
