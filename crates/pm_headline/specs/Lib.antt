pub mod Reports
pub mod Traces
pub mod Bills
pub mod Targets
pub mod Demos
pub mod Promises
