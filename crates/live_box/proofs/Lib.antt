-- The theorems that the calls' proofs rest on, and that each contract leaves one outcome.
pub mod FreshOutcome
pub mod StateRefused
pub mod ReportOutcome
pub mod EventOutcome
pub mod Unique
