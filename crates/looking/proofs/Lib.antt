-- What the proofs of looking for a child cite, and those of the steps above it.
pub mod Parts
pub mod Compared
pub mod Scan
pub mod Looked
pub mod Chosen
pub mod Listing
