-- The theorems, a folder for what they are about, bottom up: each file rests on files that stand above it here or in its folder's list.
pub mod Tree
pub mod Level
pub mod Path
pub mod Event
pub mod Run
pub mod Share
pub mod Outcome
