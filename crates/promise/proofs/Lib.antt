-- Demand 3 is not empty: bench ROMs of which it speaks.
pub mod Witness
-- The bench ROMs of document 01, one table under one claim.
pub mod Table
-- A token that may stand where it stands meets, in a state that stands as the assignment says, no refusal but 21 to 27: 12 to 17, 19 and 20
-- one by one, and those of a body that is read.
pub mod Refusing
-- A token that is carried out and does not finish leaves a state that stands as the assignment says: what all tokens have in common, and
-- the two that change the call chain.
pub mod Onward
-- A token of a passed ROM, family by family: it is refused by 21 to 27, finishes the run, or leaves a state that stands as the assignment
-- says.
pub mod Steps
-- The run of a passed ROM, token by token: each finds a state that stands as the assignment says, and so none meets a refusal but 21 to 27.
pub mod Running
-- Demand 3 and what follows beside it, proved.
pub mod Demand3
-- Bytes past the length are ignored, proved.
pub mod PastLength
-- A spread ROM is judged and run as the same FCode bytes behind start1 are, proved.
pub mod Unspread
-- What C receives and with what a listing starts, proved.
pub mod Received
-- What the lamp shows, proved.
pub mod Shown
