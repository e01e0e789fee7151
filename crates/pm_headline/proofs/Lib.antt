mod Reports
mod Journals
mod Judgements
mod Boards
mod Bills
mod Targets
pub mod Headline
