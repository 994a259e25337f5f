-- What the C host is handed back.
pub mod Host
-- What is only proved: nothing here has to be believed.
pub mod Laws
