-- Where the model passes a ROM there is an assignment of heights.

-- Every place that the model comes to is reachable, and every number that it holds is defined by a reachable token before it.
pub mod Roots
-- The rounds come to every reachable token outside bodies, each in its setting.
pub mod Cover
-- Where the model's rounds pass: the round or the body that each reachable token belongs to, and what its cell is at the end.
pub mod Spots
-- Where the model's rounds pass: the heights that a token of a body has at the end.
pub mod Cells
-- The heights and sums of the assignment where the model's rounds pass: those that the rounds leave; and what holds of every reachable
-- token.
pub mod Heights
-- What holds of every reachable token outside bodies, where the model's rounds pass.
pub mod Outside
-- What holds of every reachable token of a body, where the model's rounds pass, and so of every one.
pub mod Bodies
-- What a body's sum is where the model's rounds pass: what its tally took is what the rules ask for.
pub mod Told
-- Rule 2, where the model's rounds pass: a body's sum has the maxima over its tokens, its entry and its ends.
pub mod Maxima
-- Rule 6, where the model's rounds pass: a token is at each reachable place.
pub mod There
-- The order of rounds, where the model's rounds pass: the setting of a body, and where its branches lead.
pub mod Order
-- Rule 5, where the model's rounds pass: a number is defined once, and a value's sum is a value's.
pub mod Once
-- The counts of numbers, nodes and open children, where the model's rounds pass.
pub mod Counts
-- Rule 4, where the model's rounds pass: no two tokens overlap, and no branch leads around one that ends a round.
pub mod Spans
-- Where the model's rounds pass there is an assignment: the heights are those that the rounds leave.
pub mod Accept
