-- The laws of pages and of numbers as text, and that the contracts leave no choice.
pub mod Pages
pub mod Numbers
pub mod Unique
