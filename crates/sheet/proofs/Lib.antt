-- What the proofs of the sheet share, and what is proved of it apart from the code.
pub mod Greatest
pub mod Figures
pub mod Same
pub mod Line
pub mod Unique
pub mod Worked
