-- Demand 3, from its end: Demand3 (the theorem), Starting (the machine after its start), Calls and Histories (every list of calls, every
-- run), Beginnings (how a run begins), Watches (the condition on times), Lending (what calls lend), Chains (the bound), Agreement and
-- Stuckness (what the invariant says at a moment).
pub mod Chains
pub mod Stuckness
pub mod Agreement
pub mod Lending
pub mod Watches
pub mod Beginnings
pub mod Histories
pub mod Calls
pub mod Starting
pub mod Demand3
