-- The one lemma behind every theorem that a contract leaves no choice, and a fact on lists that several crates cite.
pub mod Determined
pub mod Entries
