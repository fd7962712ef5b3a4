-- What the contracts of queues speak of.
pub mod Words
