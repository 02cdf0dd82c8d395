-- Laws on the promises of the public functions.
pub mod Determined
