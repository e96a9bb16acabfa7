-- Assembled: what the assembler makes of a list is the definition's size, places and bytes.
pub mod Assembled
