-- A step keeps a state whole.

-- The first of a list of tests that holds, and an entry of a table at its own number.
pub mod Tests
-- What refusals 6, 1, 7 and 4 say of a state that they let pass, taken apart into facts and put together again.
pub mod Whole
-- What opening hands back is ready for its first token.
pub mod Open
-- What is known of a token that may stand where it stands, by the token list and by its bytes.
pub mod Token
-- What new-device, finish-device and a property's writing leave beside a whole tree, which is the tree's own law: the arrays' lengths, and
-- that no node younger than the first has a parent older than it.
pub mod Tree
-- What is left of whole call frames and program numbers when one is added, changed or taken away; and what is known of a number that is
-- defined.
pub mod Parts
-- A token that is carried out keeps everything that refusals 6, 1, 7 and 4 ask: family by family.
pub mod Step
-- Why a run asks after each token whether the root is active.
pub mod Root
