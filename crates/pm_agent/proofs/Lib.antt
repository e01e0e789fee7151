pub mod AgentLaws
pub mod MadeLaws
