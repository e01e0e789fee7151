pub mod Numerals
pub mod FirstLines
pub mod Openings
