-- A list of instructions as numbers (Entries), what the assembler makes of any numbers (Places), and which lists it is for, with what it
-- makes of them (Listed).
pub mod Entries
pub mod Places
pub mod Listed
