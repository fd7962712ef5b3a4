-- What reading leaves of a state's words, and that what was stored is read again.
pub mod Again
