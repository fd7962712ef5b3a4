-- What the contracts of the replay speak of beside its definitions.
pub mod Lent
pub mod Replayed
