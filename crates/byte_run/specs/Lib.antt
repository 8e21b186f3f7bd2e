-- Bytes taken where the state stands.
pub mod Taking
