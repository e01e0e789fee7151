pub mod Control
pub mod AgentFields
