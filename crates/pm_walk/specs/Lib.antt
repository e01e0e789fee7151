pub mod Cuts
pub mod Standing
pub mod Clearing
pub mod Runs
pub mod Parts
pub mod Auctions
