pub mod Agents
pub mod MadeBids
