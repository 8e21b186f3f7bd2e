-- What open accepts, and what it leaves.
pub mod Lending
pub mod Opening
pub mod Twins
