-- What follows from the rules alone: demand 3 rests on this, and on nothing else of the laws.

-- What the sentences of the least set come down to, one by one.
pub mod Reach
-- What is known of a token that was read: what its bytes and its place say of it, and what the token list says of its family.
pub mod Tokens
-- Where a token leads, what it does to heights, and when its number is known: what the list and Effect.antt say, whatever finds heights.
pub mod Ways
-- Of two ROMs that differ past their length alone the same tokens can be reached, and heights of the one are heights of the other.
pub mod Past
