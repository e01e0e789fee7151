pub mod Between
pub mod SameKinds
pub mod TicksFit
