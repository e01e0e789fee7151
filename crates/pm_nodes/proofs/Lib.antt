pub mod DeviceAgents
