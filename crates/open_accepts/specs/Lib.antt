-- WHEN OPEN ACCEPTS. Read Claim, then what it speaks of: Lending (crates/open), what open is called with; Lent, what lies there; Good, when that is good;
-- Words, the fields of a record in 01's words. Examples: opens with their replies, computed, and wrong opens.
pub mod Words
pub mod Lent
pub mod Good
pub mod Claim
pub mod Examples
