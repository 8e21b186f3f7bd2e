-- For the functions within.
pub mod Letter
