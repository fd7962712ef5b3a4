-- What a step does to the rows keeps those that wait to be taken in their heaps.
pub mod Anew
pub mod Heading
pub mod Choosing
pub mod Leaving
pub mod Outset
