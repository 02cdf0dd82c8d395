-- The uncompressed form: what its writers do, and what `uncompress` answers and leaves.
pub mod Putting
pub mod Uncompressed
