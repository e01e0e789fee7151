pub mod Limited
pub mod LimitedFields
pub mod Concentrators
pub mod ConcentratorFields
pub mod Faults
