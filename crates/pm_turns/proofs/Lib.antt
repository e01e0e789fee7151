pub mod Devices
mod Finishing
