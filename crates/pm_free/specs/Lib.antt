pub mod Links
pub mod Counting
pub mod OverLinks
pub mod SameEnds
pub mod Nodes
