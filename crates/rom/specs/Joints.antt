-- What the functions of this crate agree on among themselves: definitions for private ones.

-- A sum on its way from the last byte down.
pub mod Sum
-- Bytes that lie so far apart, laid one behind the other.
pub mod Spread
