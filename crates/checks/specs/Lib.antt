-- What the checks' contracts cite.
pub mod Counted
pub mod Filed
