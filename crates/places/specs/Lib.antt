-- Where things lie in lent memory.
pub mod Places
