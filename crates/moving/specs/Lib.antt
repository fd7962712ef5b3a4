-- What the contracts of an event on arrays speak of beside the rules.
pub mod Arrays
