-- What the contracts of an event that is taken speak of beside the rules.
pub mod Moved
pub mod Taken
