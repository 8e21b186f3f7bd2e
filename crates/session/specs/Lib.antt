-- What the three calls do, on lists of bytes: the session's choices, its steps, its calls.
pub mod Choices
pub mod Session
pub mod Calls
pub mod Sessions
pub mod Again
pub mod BlockSums
pub mod Levels
pub mod Reasons
pub mod Tallies
pub mod Computing
