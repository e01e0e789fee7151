pub mod Nodes
pub mod Devices
pub mod Sums
pub mod Standings
pub mod GroupTotals
pub mod Phases
pub mod DeviceCuts
