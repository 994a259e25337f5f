-- A budget as a person writes it.
pub mod Budget
-- What is only proved: nothing here has to be believed.
pub mod Laws
