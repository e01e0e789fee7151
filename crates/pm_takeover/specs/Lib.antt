pub mod Takeovers
pub mod Blind
