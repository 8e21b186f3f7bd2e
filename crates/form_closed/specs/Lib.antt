-- The form test is closed under the three calls. Fixed: what no call changes. Facts: the invariant of the state, what the test says and what holds of
-- all bytes. InForm: memory that passes. Free: the free bytes stay. Columns: of the table, one partner's states may change.
pub mod Fixed
pub mod Facts
pub mod InForm
pub mod Free
pub mod Columns
