-- The strict reader: names and strings, option members, entries, the head, the whole text, and what is promised.
pub mod Label
pub mod Name
pub mod String
pub mod Values
pub mod Options
pub mod Element
pub mod Meant
pub mod Kept
pub mod Reading
pub mod Items
pub mod Sections
pub mod Head
pub mod Whole
