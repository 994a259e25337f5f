-- What is only proved: nothing here has to be believed. What rests on a definition that an edit of must-fail/ makes wrong stands in
-- proofs/.

-- How the state of a passed ROM's run stands before each of its tokens: as the assignment of heights has it.
pub mod Standing
-- Paths and lookups, run on cases.
pub mod Lookups
-- Which reachable definitions lie wholly before a place: one step outside bodies changes that by no more than the one that it carries out
-- (`leads_moves`), for no way leads around, or twice through, what is met exactly once (InForce.antt).
pub mod Before
-- The numbers that a state holds: what is found in them, and that they stay those of the definitions carried out.
pub mod Carrying
-- What the call chain says of the state, and the room that it leaves: by rules 2 and 3 a body has the room that it wants wherever it is
-- called from.
pub mod Room
-- Every token that may stand where it stands has a family of which the evaluator knows what it does.
pub mod Families
-- A step and a token say the refusal that is computed for them, or 0.
pub mod Numbered
-- The bench ROMs of document 01, one table under one claim, which proofs/Table.antt proves.
pub mod Table
