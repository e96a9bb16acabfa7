-- What the reader answers, by places of the table: expressions, statements, whole tables (Exprs, Stmts, Tables), and the sets of names that
-- it keeps beside them (Uses). Scopes and Sets tie its numbers of names and its sets to the model's scope and usage.
pub mod Exprs
pub mod Stmts
pub mod Uses
pub mod Scopes
pub mod Sets
pub mod Tables
