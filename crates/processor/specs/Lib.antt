-- The machine's functions see registers, flags and memory, not the whole world of the definitions. Seen says what such a function does: for
-- every rest of the world, the definition's action comes to its answer (`Does`). Pieces names parts of the definitions that are functions
-- here. Communications are not in the code, so where one may be made the equation drops them (Quiet, `Hears`, `Takes`).
pub mod Seen
pub mod Pieces
pub mod Quiet
