-- What the contracts on class tables state.
pub mod Judged
pub mod Sized
pub mod Answers
pub mod Stated
