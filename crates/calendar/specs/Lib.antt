-- What the structs of this crate mean as dates and times.
pub mod Meaning
