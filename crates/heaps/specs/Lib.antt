-- What the contracts and the laws of the heaps speak of.
pub mod Sizes
pub mod Order
pub mod Trees
pub mod Links
pub mod Heaps
pub mod Kept
