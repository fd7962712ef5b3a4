-- What is proved of tables and reports as text: what is read of any bytes, that what was read is written again and what was written is
-- read back, exactly which texts are accepted and where 40 is given, how long they are at most, and that the contracts leave no choice.
pub mod AnyBytes
pub mod Again
pub mod Back
pub mod Exact
pub mod Forty
pub mod Most
pub mod Room
pub mod Unique
pub mod Worked
