-- Questions and records of a message as the elements of its text.
pub mod Prints
pub mod Elements
