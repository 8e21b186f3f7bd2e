-- What the code of this crate means in the words of the grammar, and what reading a line byte by byte comes to.
pub mod Byte
pub mod Steps
