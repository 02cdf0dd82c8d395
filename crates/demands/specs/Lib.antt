-- The words of what is promised, and the short examples. The promises are in proofs/: open FrontPage there first.
pub mod FrontPage
pub mod Examples
