-- The rules of the box, a file for each part of them. A reader must believe these definitions; Worked and Further
-- alone are what is expected of them. Nothing here is code.
pub mod Box
pub mod Steps
pub mod Refused
pub mod Outcome
pub mod Promise
pub mod Worked
pub mod Further
