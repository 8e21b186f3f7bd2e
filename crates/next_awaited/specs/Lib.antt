-- The proposal whose transfer is awaited.
pub mod Accepted
