-- What the proofs of the reading rest on: the parts of a sound state, words that do not fit, a state that has its lists, and what the test of
-- its rows asks for; and that the contract leaves no choice.
pub mod Parts
pub mod Unfit
pub mod Opening
pub mod Loading
pub mod Unique
