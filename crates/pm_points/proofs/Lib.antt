pub mod Floors
pub mod Lines
pub mod FoundPoint
pub mod LastPoint
pub mod Falls
pub mod Passed
