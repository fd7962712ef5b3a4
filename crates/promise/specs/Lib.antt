-- What the program's arguments ask for. A reader must believe these definitions; nothing here is code.
pub mod Arguments
