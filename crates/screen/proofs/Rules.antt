-- What is in force at a place, from the rules alone.
pub mod InForce
