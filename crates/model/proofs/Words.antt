-- What the parts of a program may touch: values as words (Values), times (Times), parts that one process runs (Parts), the names in them
-- (Uses), and that an accepted program's parts are apart (FineParts).
pub mod Values
pub mod Times
pub mod Parts
pub mod Uses
pub mod FineParts
