-- What the functions' proofs share, what the parts are for an accepted table, and that the contracts leave no choice.
pub mod Numbers
pub mod Plain
pub mod Unique
