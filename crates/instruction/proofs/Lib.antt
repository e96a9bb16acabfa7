-- Stores has bytes that are written one after another, Prefixes and Decodes that they are the definition's coding and decoding.
pub mod Stores
pub mod Prefixes
pub mod Decodes
