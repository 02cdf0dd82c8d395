-- Laws that no definition needs.
pub mod Fitting
