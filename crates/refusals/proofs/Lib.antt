-- Which refusal comes first, what each number of a judged table is, and that the contract leaves no choice.
pub mod First
pub mod Judging
pub mod Numbers
pub mod Unique
