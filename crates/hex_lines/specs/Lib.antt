-- A line in hexadecimal and the octets that it spells.
pub mod Hex
