-- Laws that no definition needs.
pub mod Arms
pub mod Writing
pub mod LookAhead
pub mod LookAheadDigits
