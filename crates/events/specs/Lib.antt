-- What the contract of an event speaks of beside the rules.
pub mod Links
pub mod State
