-- The codes of instructions by name, and their bytes.
pub mod Codes
pub mod Coded
