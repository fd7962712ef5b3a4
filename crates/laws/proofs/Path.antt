-- Choosing at a row and up a path, that heads name their packets, and what an event does to the rows of one path and to no other.
pub mod Tests
pub mod Least
pub mod Writing
pub mod Choosing
pub mod Looking
pub mod Rising
pub mod Settling
pub mod ArrivalPath
pub mod DeparturePath
pub mod Naming
