-- The texts of a record, as parts of the stores.
pub mod Texts
