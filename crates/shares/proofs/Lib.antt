-- That the contracts leave no choice.
pub mod Unique
