-- `instruction::put_prefixes` meets its contract. The loop's invariant: what is to be stored from the start is what is left to be stored
-- here, and of some prefixes one is left. Assumes nothing.
use Prim.Native.Nat.{◌<◌}
use native.Mathlib.Omega.{arith}
use mathlib.Core.Path.{sym, ◌∙◌}
use Rattle.instruction.proofs.Prefixes.{none, one, turn-stored}
use Rattle.instruction.proofs.put_prefixes.Goals as goal

pub loop-left-preserved : goal.loop-left-preserved
loop-left-preserved c = (
  c.loop-left.invariant.0
      ∙ turn-stored c.loop-left.out c.args.here c.loop-left.left c.loop-left.rest c.loop-left-test.true
      ∙ simp (c.put.ensures, c.digit.ensures.0, c.shift-rest.ensures),
  λ _. omega arith,
)

pub returns-then-count-gt0 : goal.returns-then-count-gt0
returns-then-count-gt0 c =
    let few : 0 < c.loop-left.left = c.loop-left.invariant.1 c.if-count-gt0.true in
    let e = one c.loop-left.left c.loop-left.rest c.loop-left-test.false (λ z. absurd (omega arith)) in
    sym (c.loop-left.invariant.0 ∙ simp (e, c.put-then-count-gt0.ensures, c.first_prefix.ensures))

pub returns-else-count-gt0 : goal.returns-else-count-gt0
returns-else-count-gt0 c = sym (c.loop-left.invariant.0 ∙ simp (none c.loop-left.left c.loop-left.rest (omega arith)))
