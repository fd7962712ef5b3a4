-- Words as bytes.
pub mod Octets
pub mod Numbers
