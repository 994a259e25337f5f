-- The two stacks, and what a token does that works on them alone.
pub mod Stacks
-- A state, by its fields, and with one part of it another.
pub mod State
-- The program numbers of a state.
pub mod Numbers
-- Refusal 7, a damaged state.
pub mod Whole
-- What a step or a run answers.
pub mod Answer
-- What a step has before it and what it leaves; the number of an answer.
pub mod Scene
-- Why a token is refused, 12 to 27, and in which order.
pub mod Refusals
-- What each token does, by its family.
pub mod Effects
-- A step.
pub mod Step
-- A run.
pub mod Run
-- Opening.
pub mod Open
-- Lookups and the node table of a state.
pub mod Lookup
-- What a step or a run answers, as document 01 numbers it.
pub mod Numbered
-- What the crates of the house agree on: definitions for functions that only another crate of the house calls, and for private ones.
pub mod Joints
-- What is only proved: nothing here has to be believed.
pub mod Laws
