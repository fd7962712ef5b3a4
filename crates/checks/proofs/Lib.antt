-- How the checks' answers follow from the rules, for the proofs of the functions; and that their contracts leave no choice.
pub mod Counting
pub mod Filing
pub mod Meeting
pub mod Rooted
pub mod Whole
pub mod Unique
