-- What the contracts of the list speak of beside its definitions.
pub mod Next
pub mod Reached
