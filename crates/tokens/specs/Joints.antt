-- What the crates of the house agree on: definitions for functions that only another crate of the house calls, and for private ones.

-- A token at a glance: what a loop asks of a token, in plain numbers.
pub mod Glance
-- A quick read: a table of what each first byte says, and what is known of a token that was read by it.
pub mod Quick
-- Reading a body, by the code's own steps.
pub mod Body
