-- The properties that records and store hold.
pub mod Held
-- The tree's part of refusal 7.
pub mod Whole
-- A tree, by its fields.
pub mod Tree
-- Nodes: new-device and finish-device, refusal 20.
pub mod Node
-- Writing a property, 26 and 27.
pub mod Property
-- Lookups by path, 29 and 30.
pub mod Path
-- Where a value that is looked up lies, or why there is none.
pub mod Sought
-- The node table.
pub mod Rows
-- What a write and a lookup answer, as document 01 numbers it.
pub mod Numbered
-- What the crates of the house agree on: definitions for functions that only another crate of the house calls, and for private ones.
pub mod Joints
-- What is only proved: nothing here has to be believed.
pub mod Laws
