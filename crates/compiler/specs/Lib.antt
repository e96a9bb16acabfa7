-- What the list of a table is, and what its bytes come to.
pub mod Codes
