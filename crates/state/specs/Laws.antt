-- What is only proved: nothing here has to be believed.

-- What the next layer goes by: no token's work on the stacks leaves their sizes, and a token that only reckons gives what its row says.
pub mod Stacks
-- How long a state's arrays are: what its declared type says of them, as a fact that the laws go by.
pub mod Sized
-- A step keeps a state whole.
pub mod Keeps
-- The names that device-name, model and device-type write are good ones, and these tokens never meet 26.
pub mod Titles
-- The laws of steps and runs.
pub mod Steps
-- The definitions at work, computed: each cell and each height below is what document 01 says.
pub mod StackExamples
-- A number sought, and tables by number filled entry by entry.
pub mod Seeking
-- A token that may stand where it stands: refused with the first number whose condition holds, else carried out.
pub mod Done
-- What a token leaves alone, by its family: how many program numbers there are, and how many records.
pub mod Untouched
-- "Bytes past the length are ignored": a step and a run are the same with two ROMs whose bytes are the same below the state's length.
pub mod Past
-- Of a whole state lookups answer what the tree's do, of a damaged one 7.
pub mod Lookup
-- What the enums of this crate say is what the definitions compute.
pub mod Numbered
