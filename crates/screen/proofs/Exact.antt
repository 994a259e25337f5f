-- Where there is an assignment of heights the model passes the ROM, and its marks are that assignment's.

-- Where there is an assignment of heights, a round that starts with them finds them, and is good.
pub mod Round
-- Where there is an assignment of heights, the body of a b(:) that ends a round which starts with them is read, its walk finds them, moved
-- by 64 less its need, and its tally is the sum of its number.
pub mod Body
-- Where there is an assignment of heights the model passes, and the heights that it finds are the assignment's.
pub mod Exact
-- Two assignments agree on every reachable token, and the marks of the model are what they say.
pub mod Agree
-- The model keeps the screen's promise, and nothing else does: it passes a ROM exactly where an assignment exists, with the marks that any
-- assignment fixes.
pub mod Exactly
