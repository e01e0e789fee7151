pub mod Counting
pub mod Sound
pub mod Keeping
pub mod Runs
pub mod Timely
pub mod Markets
pub mod Paths
