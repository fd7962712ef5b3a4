-- What the run's contracts speak of beside the rules.
pub mod Served
pub mod Run
