-- What the checksum behind F> decides.
pub mod Check
