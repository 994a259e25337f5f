-- What is only proved: nothing here has to be believed.

-- What the proofs need of numbers, lines and texts, and that digits read back: a decimal as its number, hexadecimal ones as their bytes.
pub mod Texts
-- What the proofs need of the table of numbers: each part of it answers for its own numbers, and no words are long.
pub mod Numbers
-- What the proofs need of names and fields: bytes from a place on, how long they are as a line or a field has them, and that the words of a
-- number are the same within quotes.
pub mod Fields
-- How long each line of a scan is at most, so that a caller knows how much room to keep for it.
pub mod Scan
-- Every listing fits its buffer, with a zero behind it: at most 32 lines of nodes, a line for each property that is held, and three lines
-- more.
pub mod Fits
-- What the proofs need of a tally: it goes piece by piece, and the first raw piece lies in the ROM.
pub mod Tally
-- What the proofs need of a path, part by part, and how long a node's lines can be.
pub mod Explain
-- Laws of the token list: the parts of an operand lie in order; the lines show the bytes of the program, every byte once and in order;
-- written one by one they are the list; and none is longer than `line_most`.
pub mod Tokens
-- The lines, run: digits at their ends, the listing of document 01's scale board, and two token lists.
pub mod Examples
-- The lines of a scan, run: what passed, what was refused in a run and by its header, names with quotes and control bytes, and the counts.
pub mod ScanExamples
-- What explain says, run: headers of each kind, values as they are read, paths, and where a run ended.
pub mod ExplainExamples
-- How writes into a text go one behind the other.
pub mod Wrote
