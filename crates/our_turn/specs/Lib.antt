-- What we propose, and what we say in our turn.
pub mod Turn
