pub mod Moving
pub mod Devices
pub mod DeviceCalls
pub mod RelayCalls
pub mod RootCalls
pub mod Runs
pub mod Given
pub mod Offers
pub mod Places
pub mod Flow
pub mod Law
pub mod Rising
pub mod Settling
pub mod Frames
mod Expiring
pub mod WorkedValues
mod WorkedCalls
pub mod Worked
pub mod WorkedGiven
mod WorkedEnd
mod DeepGiven
mod DeepCalls
mod DeepEnd
mod Reached
mod Told
mod Anew
