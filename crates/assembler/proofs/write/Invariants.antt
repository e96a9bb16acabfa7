-- `assembler::write` meets its contract. The loop's invariant: the bytes of all entries are those of the entries that are left, from here
-- on. Assumes nothing.
use Prim.Native.Nat.{◌-◌}
use mathlib.Core.Path.{◌≡◌}
use Rattle.assembler.specs.Places.{wrote}
use Rattle.assembler.proofs.write.Given as goal

abbrev pub invariant-loop-i : goal.invariant-loop-i
invariant-loop-i l =
    (wrote l.most 0 l.list l.places l.initial.out ≡ wrote (l.most - l.i) l.i l.list l.places l.out)
