-- The invariant, `Inv` in Running. Each process of Occam's tree runs a part (Trees) in words of its own (Zones). Leaves says what holds of
-- a process without the processor, Kernel what all words hold and who is queued, Stays what others leave alone. Writes, Puts, Moving and
-- Reals change single things of it. Scheduling has who gets the processor, Finish how an instruction's case ends. Sleeping and Unlinking
-- put a process into the timer queue and take it out; Context has what is known of times as something else, Few that those in the queue are
-- few.
pub mod Trees
pub mod Zones
pub mod Leaves
pub mod Stays
pub mod Kernel
pub mod Writes
pub mod Puts
pub mod Grounds
pub mod Traces
pub mod Running
pub mod Moving
pub mod Sleeping
pub mod Unlinking
pub mod Reals
pub mod Scheduling
pub mod Finish
pub mod Few
pub mod Context
