-- What the contracts of storing speak of.
pub mod Packets
pub mod Counted
