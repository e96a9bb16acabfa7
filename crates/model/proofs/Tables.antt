-- What reading and counting give. A table that is accepted is a well-formed program (Readers, Accepts) whose names are told apart
-- (Sites), and no table is refused with 8 (Never8; Needs counts registers).
pub mod Sites
pub mod WellFormed
pub mod Needs
pub mod Readers
pub mod Accepts
pub mod Never8
