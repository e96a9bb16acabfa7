-- The plan: what it has of expressions (Entries) and of statements (Extents), and how it is made.
pub mod Entries
pub mod Extents
