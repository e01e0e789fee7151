pub mod Targets
pub mod Halving
pub mod BreakLists
pub mod TargetLines
pub mod TargetTexts
pub mod OneCurve
pub mod TargetBids
