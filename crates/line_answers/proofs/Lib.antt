-- Laws that no definition needs.
pub mod Places
pub mod Calls
pub mod Limits
pub mod Answering
pub mod Wire
