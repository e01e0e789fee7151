pub mod Bands
pub mod Guards
pub mod Feeders
pub mod Histories
pub mod Choosing
pub mod Small
