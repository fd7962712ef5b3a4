-- What is proved of one event on arrays: what its steps may take for granted, and what is left then.
pub mod Arriving
pub mod Finishing
