-- What is put on a page, and numbers as text. A reader must believe these definitions; nothing here is code.
pub mod Pages
pub mod Numbers
pub mod Quoted
