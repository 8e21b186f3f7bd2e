-- One byte of a transfer, in numbers.
pub mod Names
pub mod Outcome
pub mod Step
pub mod Told
