-- The families of tokens: what kind of work a token asks for. src/family.rt has the same names for the code.
pub mod Family
-- A row of the token list: everything that document 01 says of a token but what it does to memory, the tree and the state.
pub mod Row
-- The token list of document 01, "Tokens, by number (hex)": every token of it is a row here, and nothing else is.
pub mod Table
-- The list's names as letters, and packed into two numbers.
pub mod Name
-- A token's row as one number.
pub mod Code
-- The token at a place: whole, cut off (10), or none of the list's (11).
pub mod Decode
-- Whether a token may stand where it stands: refusal 18, and reading a token.
pub mod Place
-- Reading a body to its end.
pub mod Body
-- What a defining token says, and what a token takes.
pub mod Definition
-- Walking a program from place to place.
pub mod Reader
-- What is read, as document 01 numbers it.
pub mod Numbered
-- What the crates of the house agree on: definitions for functions that only another crate of the house calls, and for private ones.
pub mod Joints
-- What is only proved: nothing here has to be believed.
pub mod Laws
