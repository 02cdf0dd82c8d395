-- Laws that no definition needs.
pub mod FormLaws
pub mod Loop
