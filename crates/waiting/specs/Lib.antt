-- What the contracts and the laws of the two heaps of a row speak of.
pub mod Waiting
