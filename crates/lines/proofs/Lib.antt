-- The texts of lines part by part, and what a turn of the loop over words puts.
mod Parts
mod WordLines
