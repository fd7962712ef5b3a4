-- What a file's bytes leave in the columns or in what is lent for them, what is said where a file cannot be read or results cannot be
-- written, and how a program ends. A reader must
-- believe these definitions; nothing here is code.
pub mod Columns
pub mod Lent
pub mod Sentences
pub mod Statuses
pub mod Tables
