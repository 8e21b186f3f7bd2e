-- The refusals by 01's numbers.
pub mod Numbers
