-- What a whole line comes to, on the session's state.
pub mod Judged
pub mod Judge
pub mod Verdict
