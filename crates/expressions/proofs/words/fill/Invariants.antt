-- `expressions::words::fill` meets its contract. The loop's invariant: the words of all names are those of the names that are left, from
-- here on. Assumes nothing.
use Prim.Native.Nat.{◌+◌, ◌-◌}
use mathlib.Core.Path.{◌≡◌}
use lib.Seq.{sets}
use Rattle.expressions.specs.Names.{words_from}
use Rattle.expressions.proofs.words.fill.Given as goal

abbrev pub invariant-loop-index : goal.invariant-loop-index
invariant-loop-index l =
    sets l.initial.words l.start (words_from l.count l.w) ≡ sets l.words l.index (words_from (l.start + l.count - l.index) l.word)
