pub mod Digits
pub mod Ends
pub mod JournalLines
pub mod Settled
pub mod Meanings
pub mod Answering
pub mod Reports
