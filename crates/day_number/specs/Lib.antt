-- What a year is said to have.
pub mod Meaning
