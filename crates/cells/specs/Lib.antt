-- A choice by a test, a table looked up by a number, a number sought in a list.
pub mod Choice
-- Bits as a signed number, and the cell that holds a number.
pub mod Signed
-- The arithmetic tokens on 32-bit cells.
pub mod Arithmetic
-- The comparison tokens.
pub mod Comparison
-- An answer as document 01 numbers it, number and values; and u/mod's.
pub mod Numbered
-- What is only proved: nothing here has to be believed.
pub mod Laws
