-- What instructions do to a world: to single words (OneWord), with a queue (Acts, Queues), with the timer queue (Timers, Walking, Leaving,
-- Seen, Waking), and to an expression's values (Performed).
pub mod OneWord
pub mod Acts
pub mod Queues
pub mod Timers
pub mod Walking
pub mod Leaving
pub mod Seen
pub mod Waking
pub mod Performed
