-- One level by itself: how far its children can be ahead or behind, and how large its tags can be, whatever moves there.
pub mod Heads
pub mod Balance
pub mod Modes
pub mod Levels
pub mod Sizing
