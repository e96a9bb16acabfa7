-- The laws of specs/Laws.antt. Made shows once that a byte, an offer, a take and a run's waking are made of a few acts; Regular, Silent and
-- Settled show their laws of these few (Keeping). Runs has laws 1 to 3, Recorded 4 and 5, Settled 6, Reported 8, Walks 9; Refused is
-- specs/Refusals.antt. Law 7 is
-- Coding/Shortest.
pub mod Keeping
pub mod Made
pub mod Regular
pub mod Silent
pub mod RunSteps
pub mod Runs
pub mod Recorded
pub mod Settled
pub mod Reported
pub mod Refused
pub mod Walks
