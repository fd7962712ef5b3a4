-- What the functions' proofs share, and the laws of the heaps.
pub mod Orders
pub mod Turns
pub mod Counting
pub mod Melding
pub mod Uniting
pub mod Homes
pub mod Joining
pub mod Laws
