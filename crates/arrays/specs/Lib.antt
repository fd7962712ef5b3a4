-- What the contracts of the arrays speak of beside the rules, and those of the steps above.
pub mod Arrays
