-- What the numbers of the transfers' C interface stand for. Definitions only: nothing is assumed.
pub mod State
