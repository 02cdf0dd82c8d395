-- Laws that no definition needs.
pub mod MessageLaws
pub mod Boundaries
pub mod Kept
pub mod Reading
pub mod Pieces
pub mod Told
pub mod Places
