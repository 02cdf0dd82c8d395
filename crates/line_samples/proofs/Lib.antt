-- Laws that no definition needs.
pub mod TextLines
pub mod WireLines
