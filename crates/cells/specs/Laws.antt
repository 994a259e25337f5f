-- What is only proved: nothing here has to be believed.

-- What is known where a test chose: a flag read as a fact, what holds of a choice by a test, and of the default of a table.
pub mod Tests
-- A test as a fact and as an equation, tests joined and denied, and a choice by a test that is known.
pub mod Facts
-- The laws of cells that the proofs cite.
pub mod Cells
-- The definitions at work, computed.
pub mod Examples
-- What the enums of this crate say is what the definitions compute.
pub mod Numbered
