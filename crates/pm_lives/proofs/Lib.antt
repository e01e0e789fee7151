mod Staying
pub mod Downs
mod After
mod RelayValues
mod RelayMoves
mod RootMoves
pub mod AgentFacts
mod DeviceMoves
pub mod Handing
mod Beginning
mod WorldStands
mod Learnt
mod LearntWorlds
mod LettingGo
mod LivingSteps
mod Living
pub mod Answering
pub mod Carrying
pub mod Worked
pub mod Cutting
mod Giving
mod Telling
mod Settling
mod Building
mod SameAnswers
mod Freeing
mod Given
mod WorkedWorlds
pub mod WorkedBounds
pub mod WorkedSteps
mod WorkedRun
mod WorkedLives
