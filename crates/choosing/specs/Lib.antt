-- What the contracts of a row's steps speak of beside the rules.
pub mod Sizes
pub mod Filed
pub mod Keeping
