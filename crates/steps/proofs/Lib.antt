-- What the line's packet leaves behind when it goes.
pub mod Leaving
