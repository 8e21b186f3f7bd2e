-- What the numbers of the C interface mean.
pub mod Numbers
