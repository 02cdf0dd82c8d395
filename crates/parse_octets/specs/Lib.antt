-- One octet of a label or of a string in a text.
pub mod Octet
