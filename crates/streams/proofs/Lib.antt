-- The proofs' own lemmas.
pub mod Lines
