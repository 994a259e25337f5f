-- What the crates of the house agree on: definitions for functions that only another crate of the house calls, and for private ones.

-- How a run ends, of a state that is taken apart, and a step from a run of one token.
pub mod Cruised
-- The rooms that the FCode bytes of a spread ROM are laid into.
pub mod Rooms
