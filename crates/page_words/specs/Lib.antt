-- What the answers of this crate say of their line.
pub mod Meaning
