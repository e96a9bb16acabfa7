pub mod Along
pub mod Begun
pub mod Roughly
pub mod Waking
