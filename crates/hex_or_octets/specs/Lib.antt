-- Octets as hexadecimal digits: what they are.
pub mod Digits
