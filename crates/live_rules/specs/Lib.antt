-- The rules of the live box, a file for each part of them: the same steps as the run's, one event at a time, over words that the caller lends
-- and keeps. A reader must believe these definitions; Worked and Damaged alone are what is expected of them.
pub mod Limits
pub mod Layout
pub mod State
pub mod Soundness
pub mod Taking
pub mod Outcomes
pub mod Worked
pub mod Damaged
