-- The tokens of a text, read one after another: fixed octets, numbers, names, strings, hexadecimal; and what is written
-- of them.
pub mod Cursor
pub mod Step
pub mod Place
pub mod Many
pub mod Leaf
pub mod Items
pub mod Choice
pub mod Value
pub mod Number
pub mod Signed
pub mod Hex
pub mod Fields
