-- The tally sheet and its events.
pub mod Sheet
