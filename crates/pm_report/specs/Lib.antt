pub mod Words
pub mod Refusal
pub mod Report
pub mod Trace
pub mod Summary
