-- What is only proved: nothing here has to be believed.

-- FCode byte k sits at ROM byte k times the spread.
pub mod Spread
-- An aim as a number loses nothing: no branch leads inside to 0.
pub mod Branch
-- What a good header says of the ROM and of its program length.
pub mod Header
-- The header test at work on bench ROMs of document 01: antt computes each.
pub mod Examples
-- The header test of the ROM as it is lent, as document 02 has it.
pub mod Lent
-- The header of two ROMs that are the same up to the length.
pub mod Past
-- The same FCode bytes behind start1.
pub mod Unspread
-- What the enums of this crate say is what the definitions compute.
pub mod Numbered
-- Refusals by their numbers.
pub mod Refusal
