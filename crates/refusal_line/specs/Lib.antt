-- The last line of a replay.
pub mod Line
