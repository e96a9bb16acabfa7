pub mod Walking
pub mod Sleeping
