-- EDNS options: their table, the shapes of their values, their members.
pub mod Codes
pub mod Options
pub mod Shapes
