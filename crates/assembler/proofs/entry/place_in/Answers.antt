-- `assembler::entry::place_in` meets its contract. Assumes nothing.
use borrow.Author.Tests.{le-leb, lt-leb}
use Rattle.assembler.specs.Places.{place_in}
use Rattle.assembler.proofs.entry.place_in.Goals as goal

pub returns-then-index-le-ENTRIES : goal.returns-then-index-le-ENTRIES
unfolding place_in
returns-then-index-le-ENTRIES c = simp (le-leb _ _ c.if-index-le-ENTRIES.true)

pub returns : goal.returns
unfolding place_in
returns c = simp (lt-leb _ _ c.if-index-le-ENTRIES.false)
