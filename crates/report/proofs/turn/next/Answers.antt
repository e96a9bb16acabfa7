-- `report::turn::next` meets its contract. Assumes nothing.
use Prim.Native.Nat.{◌≤◌}
use native.Mathlib.Omega.{arith}
use mathlib.Core.Path.{refl, sym, ap}
use mathlib.Core.List.{◌++◌}
use mathlib.Core.Logic.{⊎_elim}
use lib.ListN.{length, drop}
use lib.Seq.{length-take-le}
use Rattle.report.proofs.Turns.{next-short, next-turn, promised}
use Rattle.report.proofs.turn.next.Goals as goal

pub returns-then-code-size : goal.returns-then-code-size
returns-then-code-size c =
    let h : c.args.report.size ≤ length c.args.code.now → c.args.report.words ≤ length c.args.memory.now → ⊥ =
    λ p q. ⊎_elim (λ t. omega (arith, t)) (λ t. omega (arith, t.1)) c.then-code-size.either in
    let r = promised c.args.code.now c.args.report c.args.memory.now
    (rw (next-short c.args.code.now c.args.report c.args.memory.now h)
    (record { report = refl; text = c.nothing.ensures.0; memory = refl; more = refl })) in
    record { turn = r.0; coming = r.1.0; shorter = r.1.1.0; last = r.1.1.1 }

pub slice_bounds-advance-end : goal.slice_bounds-advance-end
slice_bounds-advance-end c = sym (length-take-le _ _ (omega (arith, c.if-code-size.false)))

pub slice_bounds-advance-end-3 : goal.slice_bounds-advance-end-3
slice_bounds-advance-end-3 c =
    let q = c.if-memory-words.false in
    sym (length-take-le _ _ q)

pub returns : goal.returns
returns c =
    let p : c.args.report.size ≤ length c.args.code.now = omega (arith, c.if-code-size.false) in
    let q = c.if-memory-words.false in
    let r = promised c.args.code.now c.args.report c.args.memory.now {x = c.advance.result}
    (rw (next-turn c.args.code.now c.args.report c.args.memory.now p q)
    (record {
      report = c.advance.ensures.report;
      text = c.advance.ensures.text;
      memory = ap (λ l. l ++ drop c.args.report.words c.args.memory.now) c.advance.ensures.memory;
      more = c.advance.ensures.more;
    })) in
    record { turn = r.0; coming = r.1.0; shorter = r.1.1.0; last = r.1.1.1 }
