-- What the theorems on the live box speak of beside its rules.
pub mod Holds
pub mod Narrow
pub mod Unordered
pub mod Calls
