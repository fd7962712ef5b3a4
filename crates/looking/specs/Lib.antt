-- What the contracts of looking for a child speak of beside the rules.
pub mod Listed
pub mod Nearest
