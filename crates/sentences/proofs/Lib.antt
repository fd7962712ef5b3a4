-- What the functions' proofs share.
pub mod Marks
pub mod Names
