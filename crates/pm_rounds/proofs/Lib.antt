pub mod Counting
pub mod SameSent
pub mod Sent
pub mod Tried
pub mod Quiet
pub mod Rounds
pub mod Arriving
pub mod Rising
pub mod Falling
mod InTime
mod Cleared
pub mod Newest
pub mod GoingOn
pub mod Stopping
mod Storing
mod RoundsExist
mod Frozen
