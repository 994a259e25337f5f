-- What the crates of the house agree on: definitions for functions that only another crate of the house calls, and for private ones.

-- The same by numbers, as the code goes: a walk over the records with a running place, the test for room, and the stores.
pub mod Steps
-- A tree taken apart: its arrays are lent and its counts are plain numbers.
pub mod Apart
