-- What is proved of the definitions by themselves: the rows of events, small tables that are refused, and which numbers they can have, shares and charges, and that no
-- contract leaves a choice.
pub mod Filled
pub mod EventRows
pub mod Charges
pub mod Edges
pub mod Refused
pub mod Numbers
pub mod Unique
