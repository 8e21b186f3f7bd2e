-- The numbers of a fresh session.
pub mod Fresh
