-- What the model leaves, visit by visit, walk by walk and round by round.

-- What a visit says of the token at a place, and what it takes for it to be good; where the walk goes on from there; and a place's cell.
pub mod Visits
-- What a walk finds, in any text and with any tables: it is good exactly where each place that it comes to has one cell, meets its token's
-- rules and lies where the text may have a token; then these places have their cells, its tally was told of each of them and of nothing
-- else, and no other place has changed.
pub mod Walking
-- The pass over a round's places finds whether two of its tokens overlap, and whether one that ends a round is not the highest.
pub mod Apart
-- The pass over a body's bytes marks its token starts, and finds its C2: exactly where the body ends with one, and no token before it is
-- refused.
pub mod Marking
-- What is told along a walk of a body is the greatest of what its tokens ask for, and the height of its ends.
pub mod Tallying
-- A body's heights are moved, as they are where it is entered at its need: each cell of the body, and no other.
pub mod Shifting
-- What the token that ends a round does to the board.
pub mod Advancing
-- The rounds of the model: what each finds, how one leads to the next, and that every reachable token outside bodies belongs to one.
pub mod Rounds
-- How the board changes from one round to the next.
pub mod Boards
-- The model's rounds as a chain, what later rounds keep of earlier ones, and that the rounds come to every reachable token outside bodies.
pub mod Chains
