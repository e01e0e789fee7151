pub mod LiveNodes
pub mod Endings
pub mod Serving
pub mod Asks
pub mod Processes
