mod Lists
pub mod Told
pub mod Counted
pub mod CameOver
pub mod Chain
pub mod SameEnds
pub mod NewNodes
