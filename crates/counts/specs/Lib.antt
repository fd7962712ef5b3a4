-- What the contracts of counting speak of beside the rules.
pub mod Counts
