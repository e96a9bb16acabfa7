-- What a walk along the timer queue comes to, by memory alone (Walks), and pieces of the clock's operations that are functions (Sleeps).
pub mod Walks
pub mod Sleeps
