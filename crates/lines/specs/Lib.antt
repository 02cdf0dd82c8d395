-- The line programs: the lines of an input, and what a call does with a piece of it.
pub mod Lines
pub mod Reading
pub mod Programs
pub mod Pieces
pub mod Runs
