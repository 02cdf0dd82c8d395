-- The titles of a text that a table has.
pub mod Rows
