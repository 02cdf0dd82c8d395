-- Laws that no definition needs.
pub mod Every
