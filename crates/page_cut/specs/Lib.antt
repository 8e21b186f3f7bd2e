-- What the pieces of this crate are, and the numbers of its reasons.
pub mod Pieces
pub mod Why
