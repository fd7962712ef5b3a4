-- What a turn of each loop reads, what reading leaves case by case, and what writing leaves.
pub mod Turns
pub mod Cases
mod Judging
mod Whole
mod Written
