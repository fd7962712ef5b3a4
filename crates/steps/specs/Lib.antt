-- What the contracts of the steps speak of beside the rules.
pub mod Ready
