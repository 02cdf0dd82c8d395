-- Messages on the wire: header, questions, records, RDATA layouts, the reading of a message, and its uncompressed form.
pub mod Layout
pub mod Message
pub mod Read
pub mod Decode
pub mod RecordLaws
pub mod Parts
pub mod Answer
