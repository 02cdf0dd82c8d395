-- The words of the front page, proofs/FrontPage.antt.
pub mod Words
