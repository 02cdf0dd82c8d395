-- Laws that no definition needs.
pub mod Visible
pub mod OptionLaws
pub mod MeaningLaws
pub mod ReadingLaws
pub mod LookAheadSpelt
pub mod Longest
pub mod Stops
pub mod Boundaries
