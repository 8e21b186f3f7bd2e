-- What the parameters and answers of this crate mean.
pub mod Meaning
