-- What the proofs of the tests share: tests of all numbers below one, bits, identifiers, the parts of a sound tree, one turn of each walk;
-- and that the contracts leave no choice.
pub mod Alls
pub mod Bitwise
pub mod Names
pub mod Parts
pub mod Turns
pub mod Unique
