-- The called station with nothing on its shelf (02, Q-11).
pub mod Station
