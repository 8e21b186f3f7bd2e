-- Demand 3: after every list of calls the lent memory is what the log says; and the tally sheet of 02, Q-3, is the log's.
pub mod Demand
pub mod Tally
pub mod Sessions
pub mod Tallies
