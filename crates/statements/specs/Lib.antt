-- What is put into the list for a statement, by places of the table: each shape over the statements inside (Stmts, Alts), all by kind
-- (Kinds), and whole tables (Tables).
pub mod Stmts
pub mod Alts
pub mod Kinds
pub mod Tables
