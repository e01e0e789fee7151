pub mod Answers
pub mod Arguments
pub mod Codes
pub mod Inputs
