-- What tables, reports and answers are as text, what the first fault of a table's text is, and what reading and writing leave. A reader
-- must believe these definitions; nothing here is code.
pub mod Bytes
pub mod Texts
pub mod Faults
pub mod Outcomes
