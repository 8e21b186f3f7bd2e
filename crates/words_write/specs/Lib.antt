-- What the writers' C interface writes and counts. Definitions only: nothing is assumed.
pub mod Written
