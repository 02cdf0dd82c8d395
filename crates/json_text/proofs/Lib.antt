-- Laws that no definition needs.
pub mod ViewLaws
pub mod Bound
pub mod Boundaries
