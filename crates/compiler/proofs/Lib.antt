-- Compiled has what compiling a table gives, by the list of the table and its bytes, Decoded that compiled code is the scheme's list again
-- (`compile-realises`).
pub mod Compiled
pub mod Decoded
