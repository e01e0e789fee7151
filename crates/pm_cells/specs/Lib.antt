pub mod Numbers
pub mod Cells
pub mod Steps
pub mod Ends
pub mod Calls
