-- The answer of a line program to one line.
pub mod Answers
