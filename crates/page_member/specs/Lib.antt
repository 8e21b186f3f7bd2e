-- What the answer of this crate says of its line.
pub mod Meaning
