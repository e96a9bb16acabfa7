-- `plan::extent::extent_entry` meets its contract. Assumes nothing.
use borrow.Author.Rules.{rules}
use Rattle.plan.specs.Extents.{extent_entry}
use Rattle.plan.proofs.extent.extent_entry.Goals as goal

pub returns : goal.returns
unfolding extent_entry
returns c = search rules
