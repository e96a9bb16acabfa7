-- `timer::walk::walk` meets its contract. Assumes nothing.
use Prim.Native.Nat.{suc, ◌+◌, ◌-◌}
use native.Mathlib.Omega.{arith}
use mathlib.Core.Path.{◌≡◌, sym, ◌∙◌}
use borrow.Author.Tests.{eq-eqb, ne_eqb}
use Rattle.std.specs.Prelude.{length}
use Rattle.processor.proofs.Laws.{fault-passed}
use Rattle.timer.specs.Walks.{walk_in}
use Rattle.timer.proofs.walk.walk.Goals as goal

pub loop-init : goal.loop-init
loop-init c =
    let n = length c.args.memory.now in
    let z : suc n - 0 ≡ suc n = omega arith in
    rw z

pub loop-preserved : goal.loop-preserved
unfolding walk_in
loop-preserved c =
    let n = length c.args.memory.now in
    let e : suc n - c.loop.counter ≡ suc (suc n - (c.loop.counter + 1)) = omega (arith, c.loop-test.true) in
    c.loop.invariant ∙ rw (e, ne_eqb _ _ c.if-p.false, sym c.pass.ensures ∙ c.in_ok-q.was, c.in-Some.is)

pub returns-then-p : goal.returns-then-p
unfolding walk_in
returns-then-p c =
    let n = length c.args.memory.now in
    let e : suc n - c.loop.counter ≡ suc (n - c.loop.counter) = omega (arith, c.loop-test.true) in
    sym (c.loop.invariant ∙ rw (e, eq-eqb _ _ c.if-p.true))

pub returns-in_err-q : goal.returns-in_err-q
unfolding walk_in
returns-in_err-q c =
    let n = length c.args.memory.now in
    let e : suc n - c.loop.counter ≡ suc (n - c.loop.counter) = omega (arith, c.loop-test.true) in
    fault-passed c.from_residual.result c.from_residual.ensures.1
    ∙ sym (c.loop.invariant ∙ rw (e, ne_eqb _ _ c.if-p.false, sym c.pass.ensures ∙ c.in_err-q.was))

pub returns-in_default : goal.returns-in_default
unfolding walk_in
returns-in_default c =
    let n = length c.args.memory.now in
    let e : suc n - c.loop.counter ≡ suc (n - c.loop.counter) = omega (arith, c.loop-test.true) in
    sym (c.loop.invariant ∙ rw (e, ne_eqb _ _ c.if-p.false, sym c.pass.ensures ∙ c.in_ok-q.was, c.in_default.is))

pub returns-in-Some : goal.returns-in-Some
unfolding walk_in
returns-in-Some c =
    let n = length c.args.memory.now in
    let e : suc n - c.loop.counter ≡ suc 0 = omega arith in
    sym (c.loop.invariant ∙ rw (e, ne_eqb _ _ c.if-p.false, sym c.pass.ensures ∙ c.in_ok-q.was, c.in-Some.is))
