-- The laws of words as bytes, some of them worked, and what a turn of each loop reads or writes.
pub mod Laws
pub mod Worked
mod Turns
