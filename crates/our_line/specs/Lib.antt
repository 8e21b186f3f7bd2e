-- What the numbers and the enum that the writers of lines take stand for. Definitions only: nothing is assumed.
pub mod Lines
