-- What is pending.
pub mod Pending
