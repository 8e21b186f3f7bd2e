-- The form test of receive and give.
pub mod Form
