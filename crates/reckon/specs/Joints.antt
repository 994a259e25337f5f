-- What the crates of the house agree on: definitions for functions that only another crate of the house calls, and for private ones.

-- The one cell that a token gives, by its number and what it sees.
pub mod Reckoned
-- How a token in place ended.
pub mod Turned
-- A token in place, on the cells, the heights and the place alone, and how it agrees with the step of the whole state, whatever the rest of
-- it is.
pub mod Fast
-- How a token that is done in place fared, as document 01 numbers it.
pub mod Numbered
