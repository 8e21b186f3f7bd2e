-- The lines of a body. Definitions only: nothing is assumed.
pub mod TextLines
pub mod Places
