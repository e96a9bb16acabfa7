-- Every definition, in the order and words of document 01; no proof is here. Words and limits (Word, Limits); tables and programs (Number,
-- Syntax, Reader), what is tested of them (Usage, Counts, Accept) and what they mean (Occam); code (Instruction, Prefix, Layout, Scheme,
-- Code); the machine (Machine, Alternative, Timer, Answers, Execute, Run, Outside) and every refusal (Refusals). What is claimed of
-- all of it comes last: Registers, Bench, History, Laws, and Demand, which is demand 3; Examples are 01's proved ones.
pub mod Word
pub mod Limits
pub mod Number
pub mod Syntax
pub mod Reader
pub mod Usage
pub mod Occam
pub mod Counts
pub mod Accept
pub mod Instruction
pub mod Prefix
pub mod Layout
pub mod Scheme
pub mod Code
pub mod Machine
pub mod Alternative
pub mod Timer
pub mod Answers
pub mod Execute
pub mod Run
pub mod Outside
pub mod Refusals
pub mod Registers
pub mod Bench
pub mod History
pub mod Laws
pub mod Demand
pub mod Examples
