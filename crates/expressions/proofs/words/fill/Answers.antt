-- `expressions::words::fill` meets its contract. The loop's invariant: what is to be stored from the start is what is left to be stored
-- here. Assumes nothing.
use borrow.Author.Tests.{le-leb, lt-leb}
use native.Mathlib.Omega.{arith}
use mathlib.Core.Path.{◌≡◌, sym, ap, ◌∙◌}
use Prim.Native.Nat.{suc, ◌+◌, ◌-◌, ◌<◌}
use lib.ListN.{set}
use lib.Seq.{sets}
use Rattle.expressions.specs.Names.{words_from, most_names, fill_into}
use Rattle.expressions.proofs.words.fill.Goals as goal
use Rattle.expressions.proofs.words.fill.Goals.{then-names-gt-MOST-via-then-names-gt-MOST}
use Rattle.expressions.proofs.words.fill.Goals.{then-names-gt-MOST-via-else-names-gt-MOST+then-names-count}

pub returns-then-names-gt-MOST : goal.returns-then-names-gt-MOST
unfolding fill_into
returns-then-names-gt-MOST c =
    let over : most_names < c.args.names + c.args.count =
    elim c.then-names-gt-MOST.branch [
      | then-names-gt-MOST-via-then-names-gt-MOST w ↦ omega arith
      | then-names-gt-MOST-via-else-names-gt-MOST+then-names-count w ↦ omega arith
    ] in
    rw (lt-leb (c.args.names + c.args.count) most_names over)

pub loop-index-init : goal.loop-index-init
loop-index-init c =
    let e : c.args.first + c.args.names + c.args.count - (c.args.first + c.args.names) ≡ c.args.count = omega arith in
    rw e

pub loop-index-preserved : goal.loop-index-preserved
unfolding words_from
loop-index-preserved c =
    let end = c.args.first + c.args.names + c.args.count in
    let e : end - c.loop-index.index ≡ suc (end - (c.loop-index.index + 1)) = omega arith in
    let next : suc c.loop-index.index ≡ c.loop-index.index + 1 = omega arith in
    let others = words_from (end - (c.loop-index.index + 1)) c.plus-word.result in
    rw (e, words_from, ← c.plus-word.ensures) at c.loop-index.invariant
    ∙ ap (λ k. sets (set c.loop-index.words c.loop-index.index c.loop-index.word) k others) next

pub returns : goal.returns
unfolding fill_into words_from
returns c =
    let e : c.args.first + c.args.names + c.args.count - c.loop-index.index ≡ 0 = omega arith in
    rw (le-leb (c.args.names + c.args.count) most_names (omega arith)) (rw e at (sym c.loop-index.invariant))
