-- What the contracts of the calls speak of beside the rules.
pub mod Calls
pub mod Met
pub mod Reports
