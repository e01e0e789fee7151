pub mod Accounts
pub mod Shares
pub mod Bills
pub mod Ticks
pub mod Text
pub mod Runs
pub mod Charges
