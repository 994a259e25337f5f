-- What is only proved: nothing here has to be believed.

-- Laws that whoever reads tokens goes by: a whole token has a next place, past its own and not past the length; and reading a body goes
-- from token to token.
pub mod Tokens
-- What is known of a token that was read: what its bytes and its place say of it.
pub mod Stands
-- Laws of the reader: what stands at a place ends behind it and not past the program's end, and so a walk ends, and its stretches are the
-- program, every byte once and in order.
pub mod Reader
-- What the token list says of a number whose code is known: each is one test over the whole list, which antt computes.
pub mod Rows
-- Laws that whoever goes by glances needs: which token `read_of` has at a place, by what a glance at that place says.
pub mod Glance
-- A token at a glance, by what the code has found of it: its form, its first byte.
pub mod GlanceForms
-- The rules of the token list, each one test over the whole table that antt computes: its numbers are distinct and in range, its names are
-- distinct, and a row's code has the row's digits.
pub mod Rules
-- Laws of the packed names: unpacked, the two numbers are the name; and unpacking goes letter by letter.
pub mod Name
-- The definitions at work: antt computes each of these.
pub mod Examples
-- "Bytes past the length are ignored": a token is read alike from two ROMs whose bytes are the same below the length.
pub mod Past
-- The same FCode bytes behind start1 have the same tokens.
pub mod Unspread
-- What the enums of this crate say is what the definitions compute.
pub mod Numbered
