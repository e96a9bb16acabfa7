-- Proofs of the definitions alone. A folder is a layer; its file says in which order to read it. In this order: what tables give (Tables),
-- code (Coding), Occam (Occam), a program's parts (Words), quiet paths through code (Quiet), what instructions do (Effects), the invariant
-- (Invariant), one byte (Steps), the outside (Outside), and from all of these demand 3 (Demand). The laws (Laws) and the proved examples
-- stand apart from that way. Cases has what all use.
pub mod Cases
pub mod Tables
pub mod Coding
pub mod Occam
pub mod Words
pub mod Quiet
pub mod Effects
pub mod Invariant
pub mod Steps
pub mod Outside
pub mod Laws
pub mod Demand
pub mod Examples
