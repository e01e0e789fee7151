pub mod Asked
pub mod Breaks
pub mod Curves
pub mod Texts
pub mod TargetLists
pub mod Causes
