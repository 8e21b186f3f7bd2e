-- THE THEOREMS over lent memory, for every accepted open and every list of calls after it. Read Calls, what a list of calls is, then the claims:
-- Demand3, demand 3; Deeds and InWords, the same in the mission's words; Demand2, demand 2; Store, every byte of the inbox store. Replies and Columns are about whatever
-- memory.
pub mod Calls
pub mod Demand3
pub mod Deeds
pub mod InWords
pub mod Demand2
pub mod Replies
pub mod Columns
pub mod Store
pub mod Tally
