-- The code between significant instructions, at which nothing of Occam happens. Setting is a program's code as it is found, Stretches and
-- CodeParts say what stands where in it, Continuations what comes behind a part. Ways are quiet paths, ExprPaths those through expressions.
-- Marks are the significant instructions; Arrivals and Onwards lead from one to the next, PathEnds says how far.
pub mod Setting
pub mod Stretches
pub mod CodeParts
pub mod Ways
pub mod ExprPaths
pub mod Continuations
pub mod Names
pub mod Timing
pub mod Marks
pub mod Arrivals
pub mod Onwards
pub mod PathEnds
