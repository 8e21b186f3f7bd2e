-- THE REPLAY OF A CAPTURE (02, Q-11). Read Replayed, what our node would have made of it, on lists; then Program, the claim that the program's calls come
-- to that. Captures holds some, computed.
pub mod Replayed
pub mod Captures
pub mod Program
