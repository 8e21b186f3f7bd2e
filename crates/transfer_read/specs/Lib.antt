-- A transfer read byte by byte: a portion into lent memory, and what the numbers of the reading mean in the words of the grammar.
pub mod Feed
pub mod Straight
pub mod Meaning
pub mod Told
