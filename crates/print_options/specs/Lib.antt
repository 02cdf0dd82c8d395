-- What the writers of EDNS options have written.
pub mod Writing
