-- What is promised: open FrontPage first. The other files prove it.
pub mod FrontPage
pub mod Delivered
pub mod Converter
pub mod Reader
pub mod Both
