-- The theorems that the run's proofs rest on, that its contract leaves one outcome, and that both engines leave the same.
pub mod Opening
pub mod Accepting
pub mod Ending
pub mod Unique
pub mod Same
