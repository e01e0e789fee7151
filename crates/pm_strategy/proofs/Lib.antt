mod Kept
pub mod BidLaws
pub mod LevelLaws
pub mod Rounded
pub mod StepLists
