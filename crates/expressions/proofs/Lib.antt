-- Scopes has how the words of names stand in their array, when a scope is entered and when it is left.
pub mod Scopes
