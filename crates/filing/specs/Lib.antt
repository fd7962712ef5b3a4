-- What it is that those that wait are filed in heaps.
pub mod Heaped
