-- What waits for a partner, counted in the table.
pub mod Tally
