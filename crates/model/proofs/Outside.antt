-- Offers, takes and the clock's moves are parts of a run. Bystanders are processes that the outside does not act on, Wakings those that it
-- wakes; Notified is an ALT that is told of an offer. At a run's beginning (Beginnings) the clock moves (Ticks) and processes whose time
-- has come wake (Sleepers): the first of the timer queue leaves it (Leaving), one that waits wakes (Rousing), and an ALT may have been
-- woken before or have the processor (Timeouts, Alarms), which those that are left out see (Asides).
pub mod Bystanders
pub mod Wakings
pub mod Takes
pub mod Offerings
pub mod Notified
pub mod Offers
pub mod Ticks
pub mod Timeouts
pub mod Asides
pub mod Leaving
pub mod Rousing
pub mod Alarms
pub mod Sleepers
pub mod Beginnings
