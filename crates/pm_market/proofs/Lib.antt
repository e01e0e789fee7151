pub mod Tree
pub mod Cuts
pub mod Loops
pub mod Legality
pub mod Due
pub mod Tables
mod Kept
