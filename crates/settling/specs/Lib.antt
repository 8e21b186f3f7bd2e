-- The numbers after a line, and 01's number of what it came to. The other definitions are those of crates/receive_defined.
pub mod After
pub mod Answer
