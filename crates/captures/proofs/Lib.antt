-- What is proved of the replay: which refusal it gives, what the replay of its packets comes to, the whole; what is promised of each that is
-- done; and that its contract leaves no choice.
pub mod Refusing
pub mod Packets
pub mod Whole
pub mod Promised
pub mod Unique
