-- A run: its order, what is counted in it, when the line is idle, how large its numbers are, which rows it never writes, and that its choices
-- are clear.
pub mod Orders
pub mod Counting
pub mod History
pub mod Idle
pub mod Sizes
pub mod Unwritten
pub mod Quiet
pub mod Sent
pub mod Waited
