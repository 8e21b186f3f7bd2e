-- What the field reader hands out.
pub mod Reading
