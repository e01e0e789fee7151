pub mod Auctions
pub mod AuctioneerFields
