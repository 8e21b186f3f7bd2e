-- Our answers to a block, and what is promised on the way.
pub mod Answers
pub mod Promises
