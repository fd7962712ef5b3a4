-- What is proved of reading apart from the code.
pub mod Fields
pub mod Worked
pub mod Unique
