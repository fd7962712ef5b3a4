-- The records as they are counted, the lines of packets part by part and one list of them after another, how much room they take, when the
-- line is free at the latest, and that the contracts leave no choice.
mod Arrivals
mod Lines
pub mod Parts
pub mod Room
pub mod Latest
pub mod Unique
