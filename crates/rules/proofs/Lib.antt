-- What is proved of the rules by themselves: the worked runs, the promise's number for one list, how many words the results have and where
-- they stand, a list changed along a path.
pub mod Computing
pub mod Worked
pub mod Further
pub mod Number
pub mod Results
pub mod Over
pub mod OnPath
