-- What is awaited and what is said, by number.
pub mod Phase
