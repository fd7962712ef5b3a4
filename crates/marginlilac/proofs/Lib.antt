-- The run on bytes: what is read, what is written back, and that the contract leaves one outcome.
mod Reading
mod Writing
mod Exporting
pub mod Unique
