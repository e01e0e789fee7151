pub mod Rounds
pub mod Sent
pub mod Bounds
pub mod SmallRounds
