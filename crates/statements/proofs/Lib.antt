-- That what is put into the list is the scheme's code: Spelled (what a table's bytes spell), Planned and PlanOf (what the plan tells of an
-- expression and of a statement), Fills and Closes (instructions one behind another, and the Js to an end), ExprCode, Compiles, Declares,
-- Flows, Pars and Choices (each shape of statement), StmtCode (all of them), Bounds and TableCode (a whole table). Scoping has what the
-- functions of the cycle cite of names.
pub mod Spelled
pub mod Fills
pub mod Closes
pub mod Bounds
pub mod Planned
pub mod PlanOf
pub mod ExprCode
pub mod Compiles
pub mod Declares
pub mod Flows
pub mod Pars
pub mod Choices
pub mod StmtCode
pub mod TableCode
pub mod Scoping
