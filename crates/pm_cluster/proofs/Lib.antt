mod Rows
pub mod Parents
mod EntriesTold
mod LimitedTold
mod DueMore
pub mod Kept
pub mod MadeBy
mod Seats
mod Holders
mod Some
mod Children
mod Movers
mod LinesTold
mod Opened
mod OpenedCore
mod Waits
mod Readers
pub mod ClosesLegally
mod EndsAlike
pub mod NextChanges
mod DeviceFields
mod Making
mod Noted
pub mod ActForms
mod SameNext
pub mod Runs
