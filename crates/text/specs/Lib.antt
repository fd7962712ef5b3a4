-- What reading a file means, and what the contracts state. A reader must believe these definitions; nothing here is code.
pub mod Reading
pub mod Stated
