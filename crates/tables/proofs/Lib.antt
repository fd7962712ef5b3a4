-- Tests, places and rows as the functions' proofs find them, the first of several refusals, and that the contracts leave no choice. The
-- proofs of `checks` use them too.
pub mod Tests
pub mod Places
pub mod OneRow
pub mod Firsts
pub mod Judging
pub mod Answering
pub mod Unique
