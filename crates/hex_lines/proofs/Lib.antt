-- Laws that no definition needs.
pub mod Steps
