-- What the theorems speak of: sound trees, what an event does at one level, what rounding adds, a level's balance, a well-kept box, how large its numbers can be, heads that name their packets, the choices of an event, a list cut short.
pub mod Sound
pub mod Moves
pub mod Rounding
pub mod Level
pub mod Kept
pub mod Sizes
pub mod Named
pub mod Choices
pub mod History
pub mod Pace
pub mod Shorter
