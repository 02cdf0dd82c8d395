-- Members of the head of a message's text.
pub mod Head
