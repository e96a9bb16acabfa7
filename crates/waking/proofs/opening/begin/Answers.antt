-- `waking::opening::begin` meets its contract. Assumes nothing.
use native.Mathlib.Omega.{arith}
use mathlib.Core.Path.{◌≡◌, refl, ap, ◌∙◌}
use mathlib.Core.Bool.{true, false}
use Rattle.std.specs.Prelude.{Ok}
use Rattle.model.specs.Machine.{time_link_word}
use Rattle.processor.proofs.Laws.{fault-passed}
use Rattle.waking.proofs.Along.{unmarked, walks-start, walks-end, walks-no, walks-undue, walks-wide}
use Rattle.waking.proofs.Begun.{begins-asleep, begins-faulty}
use Rattle.waking.proofs.opening.begin.Goals as goal
use Rattle.waking.proofs.opening.begin.Goals.{then-front-eq-NOT_PROCESS-via-then-front-eq-NOT_PROCESS}
use Rattle.waking.proofs.opening.begin.Goals.{then-front-eq-NOT_PROCESS-via-else-front-eq-NOT_PROCESS+in_ok-is_due+then-not-branch}

-- `walks-start ..`: a walk along the timer queue that is at the front
pub returns-then-front-eq-NOT_PROCESS : goal.returns-then-front-eq-NOT_PROCESS
returns-then-front-eq-NOT_PROCESS c =
    let s = walks-start c.args.clock c.args.front c.args.cpu c.args.memory.now c.ranges.front.fits in
    let none = unmarked 4096 (time_link_word c.args.front) in
    elim c.then-front-eq-NOT_PROCESS.branch [
      | then-front-eq-NOT_PROCESS-via-then-front-eq-NOT_PROCESS w ↦
          begins-asleep c.settle.result (walks-end s (omega arith) w.if-front-eq-NOT_PROCESS.true) c.settle.ensures
      | then-front-eq-NOT_PROCESS-via-else-front-eq-NOT_PROCESS+in_ok-is_due+then-not-branch w ↦
          let late : w.is_due.result ≡ Ok false = w.in_ok-is_due.was ∙ ap Ok w.if-not-branch.true in
          begins-asleep c.settle.result (walks-no s (omega arith) w.if-front-eq-NOT_PROCESS.false refl none w.is_due.ensures late)
          c.settle.ensures
    ]

pub returns-then-memory-gt-MEMORY : goal.returns-then-memory-gt-MEMORY
returns-then-memory-gt-MEMORY c =
    let none = unmarked 4096 (time_link_word c.args.front) in
    let due : c.is_due.result ≡ Ok true = c.in_ok-is_due.was ∙ ap Ok c.if-not-branch.false in
    begins-faulty
    (walks-wide (walks-start c.args.clock c.args.front c.args.cpu c.args.memory.now c.ranges.front.fits)
    (omega arith) c.if-front-eq-NOT_PROCESS.false refl none c.is_due.ensures due c.if-memory-gt-MEMORY.true)

pub returns-in_err-is_due : goal.returns-in_err-is_due
returns-in_err-is_due c =
    let none = unmarked 4096 (time_link_word c.args.front) in
    rw (fault-passed c.from_residual.result c.from_residual.ensures.1)
    (begins-faulty (walks-undue (walks-start c.args.clock c.args.front c.args.cpu c.args.memory.now c.ranges.front.fits)
    (omega arith) c.if-front-eq-NOT_PROCESS.false refl none c.is_due.ensures c.in_err-is_due.was))
