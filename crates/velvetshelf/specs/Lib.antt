-- Answers as C reads them.
pub mod Calls
