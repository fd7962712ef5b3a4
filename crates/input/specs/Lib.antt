-- What is put in: limits, shares, class tables, events, and what is refused of them. A reader must believe these definitions; a scheduler's
-- own rules stand on them.
pub mod Limits
pub mod Shares
pub mod Classes
pub mod Events
pub mod EventRows
pub mod Refusals
pub mod Lent
