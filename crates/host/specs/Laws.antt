-- What is only proved: nothing here has to be believed.

-- Any two results that `fcode_screen` may hand back and leave are equal: the contract is a relation and no equation.
pub mod Host
