mod Past
pub mod Values
