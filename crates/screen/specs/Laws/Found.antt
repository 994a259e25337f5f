-- How heights are found: an executable model of the screen, and the room that it has.
-- A place's cell: the heights that a token is met with, as one number.
pub mod Cell
-- The sum of a program number as one number, as the table of sums has it.
pub mod Sums
-- The screen as a program: how heights are found, step by step, as the code does it.
pub mod Model
-- The screen as a whole: what it says of any bytes, and what it leaves in the marks.
pub mod Screen
-- How many cells the screen has for a program, and what they are before it starts.
pub mod Room
-- The marks as they are laid out from the cells: one for each byte that a ROM can have.
pub mod Laid
