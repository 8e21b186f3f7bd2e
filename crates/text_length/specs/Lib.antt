-- Numbers of this crate by name.
pub mod Lengths
