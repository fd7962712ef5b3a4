-- A share is a number: own and whole pace, stretches of events, the promise, the lags and the fair index.
pub mod Pace
pub mod Stretch
pub mod TwoPackets
pub mod LineMost
pub mod Promise
pub mod Lags
pub mod Index
