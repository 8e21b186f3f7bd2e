-- What receive does to lent memory.
pub mod Tallied
pub mod Receiving
pub mod Portion
pub mod Roomy
