-- How much leeway the steps leave, the way up, and a class's next packet.
pub mod Enough
pub mod Climb
pub mod Later
