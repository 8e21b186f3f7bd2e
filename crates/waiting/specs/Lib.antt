-- The bytes that wait for give, and the pieces that they are.
pub mod Waiting
pub mod Pieces
