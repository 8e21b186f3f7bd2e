-- What our node makes of a capture, on lent memory (02, Q-11).
pub mod Playing
