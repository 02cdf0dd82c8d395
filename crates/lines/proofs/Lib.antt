-- Laws that no definition needs.
pub mod Taking
pub mod Keeping
pub mod RunLaws
