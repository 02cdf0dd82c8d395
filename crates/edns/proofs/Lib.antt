-- Laws that no definition needs.
pub mod Finding
pub mod Ways
