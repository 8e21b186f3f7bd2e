-- What the lent buffers hold, as lists.
pub mod Decoded
