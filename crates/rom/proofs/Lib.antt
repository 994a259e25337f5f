pub mod Totals
pub mod Headers
pub mod Spreads
