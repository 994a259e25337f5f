pub mod Ranges
pub mod Lookup
pub mod Names
pub mod Codes
pub mod Wholes
pub mod Bodies
pub mod Passes
pub mod Quicks
