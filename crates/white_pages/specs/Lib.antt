-- What the answers of this crate say of their mail.
pub mod Meaning
