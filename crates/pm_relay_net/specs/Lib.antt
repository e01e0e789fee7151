pub mod Heads
pub mod RelayIs
pub mod RootIs
pub mod Elsewhere
