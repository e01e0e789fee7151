mod Runs
mod Offers
mod Streams
pub mod RelayRuns
pub mod RootRuns
pub mod DeviceRuns
mod Following
mod Handled
mod Bounded
mod WorkedEvents
mod Worked
mod Standing
mod Said
mod LimitsProcesses
mod LimitsRelay
mod WorkedLimits
mod LimitsMarket
mod LimitsLaw
mod AnswerRows
mod RelayCauses
mod RelayRows
mod RootRows
mod DeviceRows
