-- RDATA without pointers, as octets or in hexadecimal.
pub mod Written
pub mod Notation
