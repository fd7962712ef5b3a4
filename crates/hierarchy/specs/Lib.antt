-- What the contracts of the steps speak of beside the rules and what one row does.
pub mod Sizes
pub mod Next
pub mod Climbing
