pub mod Boards
pub mod Kept
