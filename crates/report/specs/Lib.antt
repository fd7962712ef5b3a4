-- What the contracts of the results speak of beside the rules.
pub mod Shown
pub mod Lags
