-- The session's state in session memory.
pub mod Session
pub mod State
pub mod Setters
