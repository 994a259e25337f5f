-- What a token does to heights, and where it leads.
pub mod Effect
-- Which tokens are reachable.
pub mod Reach
-- The height rules: what an assignment of heights is.
pub mod Rules
-- The screen's promise: which answer, and which marks.
pub mod Promise
-- The screen's verdict, as document 01 numbers it.
pub mod Numbered
-- What is only proved: nothing here has to be believed.
pub mod Laws
