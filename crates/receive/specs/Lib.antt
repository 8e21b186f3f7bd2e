-- What holds of the state while receive takes bytes.
pub mod Sound
