-- RDATA in hexadecimal in place in a text: the code's tests of it.
pub mod Skipping
