-- What reading a table asks of its parts.
pub mod Kept
