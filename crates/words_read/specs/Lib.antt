-- What the numbers of the readers' C interface stand for. Definitions only: nothing is assumed.
pub mod Numbers
