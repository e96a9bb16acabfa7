-- `machine::budget::run_bytes` meets its contract. Assumes nothing.
use Prim.Native.Nat.{suc, ◌+◌}
use native.Mathlib.Omega.{arith}
use mathlib.Core.Path.{◌≡◌, refl, sym, ◌∙◌}
use mathlib.Core.Bool.{false}
use Rattle.machine.proofs.Runs.{of-not, reaches-start, reaches-on, finishes-waiting, finishes-ended, finishes-spent, finishes-fault}
use Rattle.machine.proofs.budget.run_bytes.Goals as goal

pub loop-cpu-init : goal.loop-cpu-init
loop-cpu-init c =
    (reaches-start _ _ _ _ _ _ _ _ _, omega arith, refl)

pub step-requires : goal.step-requires
step-requires c =
    record {
      sized = (
        of-not c.loop-cpu.cpu.running false c.if-not-cpu.false,
        c.requires.0 ∙ sym c.loop-cpu.invariant.2,
        c.requires.1,
      );
    }

pub overflow_add-n : goal.overflow_add-n
overflow_add-n c =
    omega (arith, c.loop-cpu.invariant.1, c.if-n-budget.false, c.ranges.budget.fits)

pub loop-cpu-smaller : goal.loop-cpu-smaller
loop-cpu-smaller c =
    omega (arith, c.loop-cpu.invariant.1, c.if-n-budget.false)

pub loop-cpu-preserved : goal.loop-cpu-preserved
loop-cpu-preserved c =
    let e : c.loop-cpu.n + 1 ≡ suc c.loop-cpu.n = omega arith in
    let s = rw c.in-Ok.is at c.step.ensures in (
      rw e (reaches-on c.loop-cpu.invariant.0 c.if-not-cpu.false c.if-cpu-setup.false
          (omega (arith, c.loop-cpu.invariant.1, c.if-n-budget.false)) s),
      omega (arith, c.loop-cpu.invariant.1, c.if-n-budget.false),
      c.step.auto.memory ∙ c.loop-cpu.invariant.2,
    )

pub shape_of-memory-then-not-cpu : goal.shape_of-memory-then-not-cpu
shape_of-memory-then-not-cpu c =
    c.loop-cpu.invariant.2

pub returns-then-not-cpu : goal.returns-then-not-cpu
returns-then-not-cpu c =
    finishes-waiting c.loop-cpu.invariant.0 c.if-not-cpu.true

pub shape_of-memory-then-cpu-setup : goal.shape_of-memory-then-cpu-setup
shape_of-memory-then-cpu-setup c =
    c.loop-cpu.invariant.2

pub returns-then-cpu-setup : goal.returns-then-cpu-setup
returns-then-cpu-setup c =
    finishes-ended c.loop-cpu.invariant.0 c.if-not-cpu.false c.if-cpu-setup.true

pub shape_of-memory-then-n-budget : goal.shape_of-memory-then-n-budget
shape_of-memory-then-n-budget c =
    c.loop-cpu.invariant.2

pub returns-then-n-budget : goal.returns-then-n-budget
returns-then-n-budget c =
    finishes-spent c.loop-cpu.invariant.0 c.if-not-cpu.false c.if-cpu-setup.false c.if-n-budget.true

pub shape_of-memory-in-Err : goal.shape_of-memory-in-Err
shape_of-memory-in-Err c =
    c.step.auto.memory ∙ c.loop-cpu.invariant.2

pub returns-in-Err : goal.returns-in-Err
returns-in-Err c =
    let s = rw c.in-Err.is at c.step.ensures in
    finishes-fault c.loop-cpu.invariant.0 c.if-not-cpu.false c.if-cpu-setup.false
    (omega (arith, c.loop-cpu.invariant.1, c.if-n-budget.false)) s
