-- What the proofs of a row's steps cite, and those of the steps up the tree.
pub mod Taking
pub mod Ticks
