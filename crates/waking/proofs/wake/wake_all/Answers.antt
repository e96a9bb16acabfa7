-- `waking::wake::wake_all` meets its contract. Assumes nothing.
use Prim.Native.Nat.{◌<◌, ◌^◌}
use native.Mathlib.Omega.{arith}
use mathlib.Core.Path.{◌≡◌, ap, ◌∙◌}
use mathlib.Core.Bool.{true, false}
use Rattle.std.specs.Prelude.{Ok}
use Rattle.processor.proofs.Laws.{fault-passed}
use Rattle.waking.proofs.Waking.{one_inside}
use Rattle.waking.proofs.Along.{walks-start, walks-spent, walks-end, walks-again, walks-no, walks-undue, walks-fault}
use Rattle.waking.proofs.Along.{walks-on}
use Rattle.waking.proofs.wake.wake_all.Goals as goal

pub loop-init : goal.loop-init
loop-init c = walks-start c.args.clock c.args.front c.args.start c.args.memory.now c.ranges.front.fits

pub bounds-seen-time_link_word : goal.bounds-seen-time_link_word
bounds-seen-time_link_word c =
    let one = rw c.in_ok-awake.was at c.wake_one.ensures in
    omega (arith, one_inside one, c.time_link_word.ensures, c.requires)

pub loop-preserved : goal.loop-preserved
loop-preserved c =
    let one = rw c.in_ok-awake.was at c.wake_one.ensures in
    let word : c.in_ok-awake.awake.front < 2 ^ 32 = omega arith in
    let due : c.is_due.result ≡ Ok true = c.in_ok-is_due.was ∙ ap Ok c.if-not-branch.false in
    rw c.time_link_word.ensures
    (walks-on c.loop.invariant c.loop-test.true c.if-p.false c.marked.ensures c.if-marked.false c.is_due.ensures due c.requires word one)

pub returns-then-p : goal.returns-then-p
returns-then-p c = walks-end c.loop.invariant c.loop-test.true c.if-p.true

pub returns-then-marked : goal.returns-then-marked
returns-then-marked c = walks-again c.loop.invariant c.loop-test.true c.if-p.false c.marked.ensures c.if-marked.true

pub returns-then-not-branch : goal.returns-then-not-branch
returns-then-not-branch c =
    let late : c.is_due.result ≡ Ok false = c.in_ok-is_due.was ∙ ap Ok c.if-not-branch.true in
    walks-no c.loop.invariant c.loop-test.true c.if-p.false c.marked.ensures c.if-marked.false c.is_due.ensures late

pub returns-in_err-is_due : goal.returns-in_err-is_due
returns-in_err-is_due c =
    rw (fault-passed c.from_residual.result c.from_residual.ensures.1)
    (walks-undue c.loop.invariant c.loop-test.true c.if-p.false c.marked.ensures c.if-marked.false c.is_due.ensures c.in_err-is_due.was)

pub returns-in_err-awake : goal.returns-in_err-awake
returns-in_err-awake c =
    let one = rw c.in_err-awake.was at c.wake_one.ensures in
    let due : c.is_due.result ≡ Ok true = c.in_ok-is_due.was ∙ ap Ok c.if-not-branch.false in
    rw (fault-passed c.from_residual-in_err-awake.result c.from_residual-in_err-awake.ensures.1)
    (walks-fault c.loop.invariant c.loop-test.true c.if-p.false c.marked.ensures c.if-marked.false c.is_due.ensures due c.requires one)

pub returns-in_ok-awake : goal.returns-in_ok-awake
returns-in_ok-awake c =
    let one = rw c.in_ok-awake.was at c.wake_one.ensures in
    let word : c.in_ok-awake.awake.front < 2 ^ 32 = omega arith in
    let due : c.is_due.result ≡ Ok true = c.in_ok-is_due.was ∙ ap Ok c.if-not-branch.false in
    walks-spent
    (walks-on c.loop.invariant c.loop-test.true c.if-p.false c.marked.ensures c.if-marked.false c.is_due.ensures due c.requires word one)
    (omega arith)
