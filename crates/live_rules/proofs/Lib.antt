-- Laws of the tests of every number below one, and of the live state's words: what is stored is read, and what is not stored stays; the worked
-- days and the damaged states.
pub mod Alls
pub mod Stretches
pub mod Rows
pub mod Packets
pub mod Worked
pub mod Damaged
