-- The log of 01, defined over the bytes that crossed the link; and the same log fed byte by byte, as a tool for proofs.
pub mod Effects
pub mod Log
pub mod Fed
