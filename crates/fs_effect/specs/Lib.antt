-- Places by their signs.
pub mod Signs
