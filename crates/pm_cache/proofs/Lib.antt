pub mod Entries
pub mod SingleBids
pub mod WithinEachStep
