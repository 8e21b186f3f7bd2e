-- Dates of 1970 to 2069: the rules of a date, its number of days, and its six digits. Definitions only: nothing is assumed.
pub mod Dates
pub mod Digits
