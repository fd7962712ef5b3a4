-- How many events one read has at most.
pub mod Few
