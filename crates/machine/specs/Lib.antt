-- What the crates of the house agree on: definitions for functions that only another crate of the house calls, and for private ones.
pub mod Joints
