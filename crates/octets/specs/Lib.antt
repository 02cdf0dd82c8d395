-- Octets, numbers and texts: the definitions that every layer shares.
pub mod Lists
pub mod Bits
pub mod Fields
pub mod Parsed
pub mod Codec
pub mod Decimal
pub mod Hexadecimal
pub mod Answer
pub mod Overlay
pub mod Writes
pub mod Loops
pub mod Calls
