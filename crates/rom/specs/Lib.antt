-- The house sizes, each by its name.
pub mod Sizes
-- What stands in a ROM: its bytes, and numbers of two and of four bytes, big-endian.
pub mod Bytes
-- Spread bytes: the FCode bytes of a ROM, of which all else speaks.
pub mod Spread
-- A text as the bytes of its letters.
pub mod Words
-- Where a branch leads.
pub mod Branch
-- The checksum.
pub mod Sum
-- Refusals by their numbers.
pub mod Refusal
-- The header test, 1 to 5.
pub mod Header
-- Two ROMs that are the same up to a length.
pub mod Alike
-- Where a branch leads, as document 01 numbers it.
pub mod Numbered
-- What the functions of this crate agree on among themselves: definitions for private ones.
pub mod Joints
-- What is only proved: nothing here has to be believed.
pub mod Laws
