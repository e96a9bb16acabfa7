-- The words that statements ask for, by what stands in them.
pub mod Words
