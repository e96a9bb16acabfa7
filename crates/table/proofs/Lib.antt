-- That the definitions by places are the model's reader: SameItems, SameExpr, SameSimple to SamePar (each shape of statement), SameStmt,
-- and SameTable (the end). Words, Marks and Clash have what branches do to names, which the code keeps as bits by the names' numbers and
-- the model as lists of declarations; Exact says that the bits are the lists. Small has bounds.
pub mod SameItems
pub mod SameExpr
pub mod SameSimple
pub mod SameDeclare
pub mod SameMany
pub mod SameParts
pub mod SameAlt
pub mod SamePar
pub mod SameStmt
pub mod SameTable
pub mod Words
pub mod Marks
pub mod Clash
pub mod Exact
pub mod Small
