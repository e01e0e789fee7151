pub mod Lines
pub mod Traces
pub mod Judges
pub mod Reading
pub mod MoveReading
