-- Numbers in decimal and hexadecimal digits.
pub mod Digits
-- The listing's lines.
pub mod Lines
-- The refusals' numbers in words.
pub mod Numbers
-- Bytes as a person reads them: those from 20 to 7E are letters that are printed as they are.
pub mod Printed
-- The token list, line by line.
pub mod TokenLines
-- A file's name and a value as a line shows them, and as a field of a CSV row holds them.
pub mod Fields
-- A line and a row of a scan, and the count of dumps.
pub mod Verdicts
-- How many pieces a program has, and which is the first that is no token.
pub mod Tally
-- What explain says of a ROM.
pub mod Explain
-- What a text leaves in its buffer.
pub mod Told
-- What a call leaves that writes bytes into a text.
pub mod Wrote
-- What is only proved: nothing here has to be believed.
pub mod Laws
