-- What the sheet's numbers mean, and what the contracts state. A reader must believe these definitions; nothing here is code.
pub mod Paper
pub mod Stated
pub mod Answered
