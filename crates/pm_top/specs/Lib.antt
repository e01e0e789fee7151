pub mod Top
pub mod Endings
pub mod Serving
pub mod Ends
pub mod Causes
