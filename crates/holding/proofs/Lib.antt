-- Laws on the tests of packets, queues and rows.
pub mod All
pub mod Fitting
pub mod Queues
pub mod Tests
pub mod Passing
pub mod Sound
pub mod Unique
