-- The proofs' own lemmas.
pub mod Writing
