-- What an event may take for granted in an accepted run, and that queues stay chains and the order goes on.
pub mod Links
pub mod Fits
pub mod Sending
pub mod Stepping
