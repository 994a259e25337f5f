-- What is only proved: nothing here has to be believed.

-- What callers, and the proofs, need of trees and their properties.
pub mod Trees
-- Names compared several bytes at a time, as the code goes.
pub mod Same
-- The steps of the code come to what Property says: the walk finds the oldest property, and the stores leave the properties as they would
-- be.
pub mod Layout
-- Paths and lookups by numbers, as the code goes, and what the code's steps come to.
pub mod Path
-- The node table by numbers, as the code goes: a count with one record more, a column with one row more; what stands in a row; and that the
-- two columns are the columns of the rows.
pub mod Rows
-- A memory that is zero from a place on, and how little is left to clear after a write to it.
pub mod Clean
-- What writing a property comes to, refusal by refusal, and by the numbers of Steps where it has room.
pub mod Puts
-- A whole tree stays whole: a child; and the parent of a node is there.
pub mod Kept
-- Live bytes after a store of two lengths, and the node and the name that a record was found by.
pub mod Lives
-- A property that is written leaves a whole tree and a store of the same size.
pub mod PutKept
-- What writing a property in place comes to, by the tests that the code makes.
pub mod InPlace
-- The store and the tree that a property leaves hold what they should: read back, they are the properties as they would be.
pub mod ReadBack
-- The definition of a name, run: the bytes that may stand in one, written out, and names at the ends of their length.
pub mod NameExamples
-- What it means that a property is found, and that it is not: of a whole tree, a store of its size and a path of good form, `find_property`
-- gives 30 exactly where the path leads to no node, or the node that it leads to holds no property of that name; and a place and a size
-- exactly where the node holds one, whose value's bytes lie there.
pub mod Sought
-- What the enums of this crate say is what the definitions compute.
pub mod Numbered
