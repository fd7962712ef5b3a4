-- Words that name packets, as the queues' and the order's functions test and write them.
pub mod Words
