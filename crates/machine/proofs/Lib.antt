-- Runs and Answered tie the loop to the definition of a run, Woken, Offers and Takes the outside's calls to theirs, Refusals a start;
-- Numbers has 01's number of each answer.
pub mod Numbers
pub mod Refusals
pub mod Runs
pub mod Answered
pub mod Woken
pub mod Offers
pub mod Takes
