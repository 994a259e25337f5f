-- What is only proved: nothing here has to be believed.

-- A budget read digit by digit.
pub mod Budget
