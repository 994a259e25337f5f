-- The listing of a ROM.
pub mod Listing
-- What is only proved: nothing here has to be believed.
pub mod Laws
