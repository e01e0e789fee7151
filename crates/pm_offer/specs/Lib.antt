pub mod Offers
pub mod Powers
pub mod LocalSteps
pub mod EndLines
