-- What the contracts on packets held, on queues and on rows cite: the tests of a live state over the numbers that the code reads.
pub mod Packets
pub mod Row
pub mod Rows
