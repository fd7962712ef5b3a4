-- What the functions' proofs share, and the laws of the two heaps.
pub mod Turns
pub mod Ripening
pub mod Laws
