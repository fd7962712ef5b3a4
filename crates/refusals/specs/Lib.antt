-- What is refused of a class table in all. A reader must believe these definitions; nothing here is code.
pub mod All
pub mod Stated
