-- What is put into the list, by places of the table: instructions (Emits), expressions (Exprs) and simple statements (Simples); and the
-- words of the names in scope (Names).
pub mod Emits
pub mod Names
pub mod Exprs
pub mod Simples
