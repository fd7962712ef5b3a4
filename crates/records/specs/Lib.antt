-- What the contracts on captures state.
pub mod Scans
pub mod Reads
