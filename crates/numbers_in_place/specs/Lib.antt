-- Some of the numbers changed.
pub mod Changed
