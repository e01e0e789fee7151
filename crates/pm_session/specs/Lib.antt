pub mod Ways
pub mod Links
pub mod LinkFields
pub mod Prices
pub mod Windows
pub mod WindowFields
pub mod Ports
