pub mod Numbers
pub mod Words
pub mod OneCell
pub mod Seats
pub mod BidSteps
pub mod PriceSteps
pub mod CutAndJoin
pub mod Takes
