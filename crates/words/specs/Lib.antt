-- What a statement says that leaves no choice.
pub mod Unique
