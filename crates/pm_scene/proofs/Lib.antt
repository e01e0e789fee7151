pub mod Readers
pub mod Lists
pub mod Documents
pub mod Nodes
pub mod PlansOfFiles
