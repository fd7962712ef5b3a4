-- What one turn of a loop over the words does, and what the packets' words become.
pub mod Turns
pub mod Packets
