-- Trees: paths and depths, and what a table has that is not refused.
pub mod Paths
pub mod Depths
pub mod Trees
pub mod OnAir
