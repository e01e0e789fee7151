pub mod Bids
pub mod Prices
pub mod Ends
