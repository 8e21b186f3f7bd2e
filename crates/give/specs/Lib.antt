-- What give does to lent memory.
pub mod Giving
