-- What is only proved: nothing here has to be believed.

-- How heights are found: an executable model of the screen, and the room that it has.
pub mod Found
-- What follows from the rules alone: demand 3 rests on this, and on nothing else of the laws.
pub mod Rules
-- The code computes what the model says.
pub mod Code
-- What the model leaves, visit by visit, walk by walk and round by round.
pub mod Walk
-- Where the model passes a ROM there is an assignment of heights.
pub mod Accept
-- What the enums of this crate say is what the definitions compute.
pub mod Numbered
