mod Placing
mod Numbers
mod ChildCounts
pub mod DeviceKeeps
pub mod ParentKeeps
pub mod EndsKept
pub mod PartsSettled
pub mod Heard
pub mod StepsOn
pub mod MatchersMove
pub mod PartsMove
pub mod Moves
pub mod NodesMove
pub mod EndsCome
pub mod Running
pub mod OpenKeeps
pub mod OpenedKeeps
pub mod Ended
pub mod PhaseLeft
pub mod StandsAgain
pub mod HeldEnd
pub mod NewParts
pub mod NewEnd
pub mod ReadLines
