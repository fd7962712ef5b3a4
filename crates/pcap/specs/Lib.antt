-- Replaying captured packets: what a capture is, what is refused of it, the list of events that its records make with the box, and what
-- is left and printed. A reader must believe these definitions; nothing here is code.
pub mod Headers
pub mod Records
pub mod Faults
pub mod Lists
pub mod Outcomes
pub mod Printed
