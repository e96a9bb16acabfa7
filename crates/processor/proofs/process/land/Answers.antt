-- `processor::process::land` meets its contract. Assumes nothing.
use native.Mathlib.Omega.{arith}
use borrow.Author.Tests.{le-leb, lt-leb}
use Rattle.model.specs.Machine.{test_place}
use Rattle.model.specs.Run.{land}
use Rattle.processor.proofs.Laws.{ends, faulty}
use Rattle.processor.proofs.process.land.Goals as goal
use Rattle.processor.proofs.process.land.Goals.{else-cpu-via-then-cpu+else-code-cpu, else-cpu-via-else-cpu}

pub returns-then-code-cpu : goal.returns-then-code-cpu
unfolding land test_place
returns-then-code-cpu c u h l =
    faulty (λ x. rw (c.if-cpu.true, lt-leb c.args.cpu.place u.code (omega arith)))

pub returns : goal.returns
unfolding land test_place
returns c u h l =
    elim c.else-cpu.branch [
      | else-cpu-via-then-cpu+else-code-cpu w ↦
          ends (λ x. rw (w.if-cpu.true, le-leb c.args.cpu.place u.code (omega (arith, w.if-code-cpu.false))))
      | else-cpu-via-else-cpu w ↦ ends (λ x. rw w.if-cpu.false)
    ]
