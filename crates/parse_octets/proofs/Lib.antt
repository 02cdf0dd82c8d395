-- Laws that no definition needs.
pub mod Digits
pub mod Found
