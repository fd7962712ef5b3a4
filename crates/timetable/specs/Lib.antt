-- The records of a list's places as they are counted, and when the line is free after some packets. A reader must believe these
-- definitions; nothing here is code.
pub mod Counted
pub mod Free
