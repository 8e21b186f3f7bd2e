-- What receive takes at once.
pub mod Parts
