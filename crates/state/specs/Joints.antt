-- What the crates of the house agree on: definitions for functions that only another crate of the house calls, and for private ones.

-- One cell pushed or popped, a body entered or left: the state handed back with an answer.
pub mod Moves
-- A state taken apart, and put together again: its numbers are a `Core`, its arrays are lists by themselves.
pub mod Apart
-- Which tokens are done in place and which by value: the code's own choice, which no meaning hangs on.
pub mod Hot
-- A token on the stacks alone, refused or carried out, as the code in place goes.
pub mod Reckoning
-- Tables by program number, one look-up each: what a number's entry holds, and where it stands.
pub mod Tables
-- The tree that a lookup of a state goes by.
pub mod Lookup
