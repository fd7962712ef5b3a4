-- What is proved of an event that is taken.
pub mod Coming
pub mod Behind
pub mod Taken
