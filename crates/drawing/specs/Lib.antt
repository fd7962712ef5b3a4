-- What is drawn of a tree. A reader must believe these definitions; nothing here is code.
pub mod Parts
pub mod Stated
