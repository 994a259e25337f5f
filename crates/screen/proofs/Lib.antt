-- What follows from the rules alone, beside specs/Laws/Rules: demand 3 rests on both.
pub mod Rules
-- Where there is an assignment of heights the model passes the ROM, and its marks are that assignment's.
pub mod Exact
