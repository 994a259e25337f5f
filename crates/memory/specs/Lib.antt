-- The two windows, and a part of one of two lent slices.
pub mod Window
-- What is written into memory: bytes from a place on, what lies past the end left out.
pub mod Writing
-- Cells and bytes fetched and stored, 22 and 23.
pub mod Cells
-- A window and a fetch, as document 01 numbers them.
pub mod Numbered
-- What is only proved: nothing here has to be believed.
pub mod Laws
