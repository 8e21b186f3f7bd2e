-- White pages: the fields of a member, what a line is, a whole mail, and the dates of the older ones. Definitions only: nothing is assumed.
pub mod Fields
pub mod Pages
pub mod Stamps
pub mod Examples
