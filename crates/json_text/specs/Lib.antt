-- The profile text of a message: views, the grammar's documents and their texts, how long a text can be.
pub mod View
pub mod Limits
pub mod Document
pub mod Text
pub mod Converted
pub mod Sample
