-- What is only proved: nothing here has to be believed.

-- What the listing comes to, by its tests, and that it always fits its buffer, with the zero behind it.
pub mod Listing
