-- The states of the table's records.
pub mod States
