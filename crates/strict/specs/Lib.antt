-- Text to message: the grammar and its parser, the meaning of a document, the whole answer, and their laws.
pub mod Grammar
pub mod Spelt
pub mod Parser
pub mod Members
pub mod Meaning
pub mod Reading
