-- The EDNS element: its conditions, its members, their text, its laws, and what the code promises of it.
pub mod Edns
pub mod EdnsLaws
pub mod Element
pub mod Table
