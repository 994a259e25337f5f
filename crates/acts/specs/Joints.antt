-- What the crates of the house agree on: definitions for functions that only another crate of the house calls, and for private ones.

-- What the code for a token ensures, of a token of this family, operand and next place: the step's own definition.
pub mod Acts
