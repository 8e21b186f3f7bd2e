-- Text written into a part of a lent buffer. Definitions only: nothing is assumed.
pub mod Put
