-- What the numbers of the tests' C interface stand for. Definitions only: nothing is assumed.
pub mod Numbers
