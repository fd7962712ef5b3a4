-- A row's report and its lag, from the arrays that they are read from.
pub mod Rows
pub mod Lags
