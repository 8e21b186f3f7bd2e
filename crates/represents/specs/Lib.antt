-- How lent memory stands for a session on lists.
pub mod Laid
pub mod Tallies
pub mod Represents
pub mod Frame
pub mod Link
