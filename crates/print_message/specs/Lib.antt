-- The text of a message by its octets.
pub mod Head
pub mod Arrays
pub mod Whole
