-- What the proofs of the functions cite: the first of some tests, numbers and packets by their layout, walking from record to record, the turns of the loops, the
-- answers, and that the contracts leave no choice.
pub mod Given
pub mod Laid
pub mod Passing
pub mod Turns
pub mod Answering
pub mod Unique
