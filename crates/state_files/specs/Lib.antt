-- What reading a state leaves of its words, and what is said where one cannot be written. A reader must believe these definitions; nothing
-- here is code.
pub mod Loaded
pub mod Sentences
