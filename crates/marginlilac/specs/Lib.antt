-- The run on lent bytes.
pub mod Exported
pub mod Held
