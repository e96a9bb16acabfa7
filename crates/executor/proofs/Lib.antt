-- Executes ties codes to instructions, Acts has one byte.
pub mod Executes
pub mod Acts
