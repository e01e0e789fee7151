pub mod Shape
pub mod Names
pub mod Entries
pub mod Tables
pub mod Stages
