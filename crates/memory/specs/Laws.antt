-- What is only proved: nothing here has to be believed.

-- What callers need of memory.
pub mod Memory
-- What the enums of this crate say is what the definitions compute.
pub mod Numbered
