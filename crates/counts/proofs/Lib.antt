-- What the rules' arrival and departure make of the counts, and the marks that an arrival sets.
pub mod Marks
pub mod Steps
