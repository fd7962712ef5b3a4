-- One event after the other: what it keeps of a well-kept box, and how large the box's numbers become.
pub mod Turns
pub mod Largest
pub mod Queues
pub mod Holding
pub mod Outset
pub mod OneEvent
pub mod Keeping
pub mod Beyond
pub mod Sized
