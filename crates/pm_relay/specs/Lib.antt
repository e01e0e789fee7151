pub mod Numbers
pub mod Relays
pub mod RelayFields
pub mod Roots
pub mod RootFields
