-- Routing headers: what one is, those of a body, and the line that we write. Definitions only: nothing is assumed.
pub mod Routes
pub mod Written
pub mod Examples
