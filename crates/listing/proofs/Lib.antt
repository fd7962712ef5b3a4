-- What is proved of the list as it is built: the next event, the arrays by a list that grows, one event more, and where it begins and ends.
pub mod Coming
pub mod Growing
pub mod Turning
pub mod Ends
