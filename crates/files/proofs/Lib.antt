-- What is proved of reading and of pages apart from the code.
pub mod Bytes
pub mod Room
