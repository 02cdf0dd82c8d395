-- Names on the wire: what a name is, how it is read, and its uncompressed octets.
pub mod Name
pub mod Walk
pub mod NameLaws
pub mod Steps
pub mod Answer
pub mod Stored
pub mod Ways
