-- Where the next byte to give is.
pub mod Located
