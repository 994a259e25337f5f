-- The code computes what the model says.

-- Laws that the code is proved by: how large an effect can be, and what is known of a token that fits.
pub mod Codes
-- A visit and a tally as the code has them, and what each step of a visit comes to.
pub mod Visit
-- Where the code's walk is, and which path of the model that stands for.
pub mod Walk
-- A body's definitions, by what the code has learnt where it returns.
pub mod Body
-- What a walk keeps: no cell is above a bound, no place past the longest ROM, and the tally is low.
pub mod Keep
-- The rounds' definitions, by what the code has learnt where it returns.
pub mod Round
-- The screen's definitions, by what the code has learnt where it returns.
pub mod Screen
-- Which bytes the code judges, of a ROM that is spread and of one that is not.
pub mod Spread
