-- The sum of the lanes. Definitions only: nothing is assumed.
pub mod Lanes
