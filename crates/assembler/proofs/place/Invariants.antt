-- `assembler::place` meets its contract. The loop's invariant: the size and the places of all entries are those of the entries that are
-- left, from here on, and there is a place more than entries. Assumes nothing.
use Prim.Native.Nat.{◌+◌, ◌-◌}
use mathlib.Core.Path.{◌≡◌}
use lib.ListN.{length}
use Rattle.model.specs.Limits.{code_limit}
use Rattle.assembler.specs.Places.{sized, placed}
use Rattle.assembler.proofs.place.Given as goal

abbrev pub invariant-loop-i : goal.invariant-loop-i
invariant-loop-i l =
    (sized l.most 0 0 l.list ≡ sized (l.most - l.i) l.i l.here l.list)
    × (placed l.most 0 0 l.list l.initial.all ≡ placed (l.most - l.i) l.i l.here l.list l.all) × (length l.all ≡ code_limit + 1)
