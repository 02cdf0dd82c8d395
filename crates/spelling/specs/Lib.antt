-- How names, signed numbers and strings are spelled, and the steps of the writers.
pub mod Spelling
pub mod Width
pub mod Form
