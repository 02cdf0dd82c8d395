-- What the writers of the parts of option values have written.
pub mod Entries
