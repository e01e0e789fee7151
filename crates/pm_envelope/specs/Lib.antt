pub mod Lines
pub mod Envelopes
