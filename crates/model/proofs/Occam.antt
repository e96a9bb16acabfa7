-- Occam alone: paths to processes, and how many are live.
pub mod Paths
pub mod Live
